-- What the packages provide under one name.
use Rattle.std.specs.Prelude.{◌≡◌, ℕ, List, [], map, filter, Bool, IfSome, Option, Result, Ok, Err, Vec}
use Rattle.std.specs.FinMap.{FinMap, entries}
use Rattle.std.specs.List.{AllByRecursion, flat_map, list_any}
use Rattle.std.specs.List.Sorted.{IsSorted}
use Rattle.std.specs.Ordering.{nat_cmp}
use Rattle.std.specs.Str.{bytes_eq}
use Rattle.std.specs.declared.alloc.Global.{Global}
use Rattle.rpm_header.specs.declared.form.HeaderFault.{HeaderFault}
use Rattle.rpm_header.specs.Header.{Header, header}
use Rattle.rpm_tags.specs.Wanted.{Need}
use Rattle.rpm_version.specs.Range.{overlaps}
use Rattle.rpm_db.specs.State.{Package, Good, Bad}
use Rattle.rpm_select.specs.Recents.{Recalls}
use Rattle.rpm_check.specs.declared.looking.Sources.{Sources}
use Rattle.rpm_check.specs.declared.names.Names.{Names}
use Rattle.rpm_check.specs.declared.offers.Offer.{Offer}
use Rattle.rpm_check.specs.Unmet.{package_meets}
use Rattle.rpm_select.specs.laws.Parts.{provided_ranges}
use Rattle.rpm_check.specs.inner.Kinds.{offer_order}

-- ---- one package

-- a provide has this name
abbrev pub is_named : List ℕ → Need → Bool
is_named name e = bytes_eq e.name name

-- a requirement's range is its flags and its version
abbrev pub range_of : Need → ℕ × List ℕ
range_of e = (e.flags, e.version)

-- the ranges that a header provides under a name
abbrev pub ranges_in : List ℕ → Header → List (ℕ × List ℕ)
ranges_in name h = map range_of (filter (is_named name) (provided_ranges h))

-- bytes offer these ranges of a name: none where they are no header
abbrev pub ranges_read : List ℕ → Result Header HeaderFault → List (ℕ × List ℕ)
ranges_read name (Ok h) = ranges_in name h
ranges_read name (Err fault) = []

-- a package offers these ranges of a name: none where it is Bad
abbrev pub ranges_given : List ℕ → Package → List (ℕ × List ℕ)
ranges_given name (Good bytes) = ranges_read name (header bytes)
ranges_given name Bad = []

-- each range that a header provides under a name stands beside a number
abbrev pub ranges_beside : ℕ → List ℕ → Header → List (ℕ × (ℕ × List ℕ))
ranges_beside n name h = map (λ r. (n, r)) (ranges_in name h)

-- each range that a package offers of a name stands beside the package's number
abbrev pub given_ranges : List ℕ → ℕ × Package → List (ℕ × (ℕ × List ℕ))
given_ranges name e = map (λ r. (e.0, r)) (ranges_given name e.1)

-- ---- all of them

-- a name alone, with every version
abbrev pub any_version_of : List ℕ → Need
any_version_of name = record { name = name; flags = 0; version = [] }

-- what the packages that provide a name give under it, by rising number
abbrev pub offered_ranges : List ℕ → FinMap nat_cmp Package → List (ℕ × (ℕ × List ℕ))
offered_ranges name packages =
    flat_map (given_ranges name) (filter (package_meets (any_version_of name)) (entries packages))

-- a range overlaps this one
abbrev pub is_hit : ℕ → List ℕ → ℕ × List ℕ → Bool
is_hit flags version r = overlaps r.0 r.1 flags version

-- a range that a package offers overlaps that of a requirement
abbrev pub hits : Need → ℕ × (ℕ × List ℕ) → Bool
hits need o = is_hit need.flags need.version o.1

-- ---- what is kept

-- the flags and the version of an offer
abbrev pub range_in : Offer → ℕ × List ℕ
range_in o = (o.flags, o.version.items)

-- the number and the range of an offer
abbrev pub offer_in : Offer → ℕ × (ℕ × List ℕ)
offer_in o = (o.number, range_in o)

-- offers stand in order, and whatever is asked of one of them is so as of one that the packages provide under a name
unfoldable pub IsOffered : FinMap nat_cmp Package → List ℕ → List Offer → Type 0
IsOffered packages name offers =
    IsSorted offer_order offers
    × ((p : ℕ × (ℕ × List ℕ) → Bool) → list_any (λ o. p (offer_in o)) offers
    ≡ list_any p (offered_ranges name packages))

-- what was read under a name, if it was, is what the packages provide under it
abbrev pub AreOffered : FinMap nat_cmp Package → List ℕ → Option (Vec Offer Global) → Type 0
AreOffered packages name o = IfSome o (λ offers. IsOffered packages name offers.items)

-- each name that is kept has the ranges that the packages offer of it
unfoldable pub KnowsNames : FinMap nat_cmp Package → Names → Type 0
KnowsNames packages names = AllByRecursion (λ e. IsOffered packages e.0.items e.1.items) names.kept.entries

-- the sources are right: the names that are kept, and the package that was read last
pub record KnowsSources (packages : FinMap nat_cmp Package) (sources : Sources) : Type 0 where
  pub names : KnowsNames packages sources.names
  pub recent : Recalls packages sources.recent
