-- What the packages provide under a name says which of them meet a requirement of that name.
use Rattle.std.proofs.Common.{◌≡◌, ℕ, List, [], ◌∷◌, ◌++◌, map, ◌==◌, ◌||◌, Bool, true, false, Ok, Some, Err, refl, sym, ap, ◌∙◌, inl, inr, append_assoc, append-nil, subst}
use Rattle.std.specs.Prelude.{◌&&◌, Result, slice_index}
use Rattle.std.specs.FinMap as finite
use Rattle.std.proofs.lemmas.Bool.{and_parts, cases_Bool}
use Rattle.std.proofs.lemmas.List.Folds.{list_any-append}
use Rattle.std.proofs.lemmas.List.Sorted.{list_any-IsPermutation}
use Rattle.rpm_check.proofs.Vocabulary.{above, answers, Bad, bytes_eq, Database, entries, entry_in, filter, FinMap, flat_map, from_one, given_ranges, givers, gives, Good, has_file}
use Rattle.rpm_check.proofs.Vocabulary.{Header, header, HeaderFault, hits, is_file_of, is_hit, is_in, is_met, is_named, is_open, IsOffered, IsPermutation, IsSorted}
use Rattle.rpm_check.proofs.Vocabulary.{IsStrictlyIncreasing, Keeps, list_any, package_meets, nat_cmp, Need, next_picked, NextIs, number_in, offer_in, offer_order}
use Rattle.rpm_check.proofs.Vocabulary.{offered_ranges, overlaps, Package, packages, Picked, picks, picks_from_one, provided_ranges, range_of, Offer, ranges_given}
use Rattle.rpm_check.proofs.Vocabulary.{ranges_in, ranges_read, read_gives, rises, Rises, same_members, store_of, Selection, Units, any_version_of}
use Rattle.rpm_select.specs.declared.picked.Picked.TheVariants as picked
use Rattle.rpm_check.proofs.Numbering.{numbers_rise}

-- ---- tests

never : (a b : Bool) → (a && (false && b)) ≡ false
never true b = refl
never false b = refl

or_never : (a : Bool) → (a || false) ≡ a
or_never true = refl
or_never false = refl

and_true : (a : Bool) → a ≡ (a && true)
and_true true = refl
and_true false = refl

and_false : (a : Bool) → false ≡ (a && false)
and_false true = refl
and_false false = refl

both_or : (a b c : Bool) → ((a && b) || (a && c)) ≡ (a && (b || c))
both_or true b c = refl
both_or false b c = refl

-- ---- one package

answered : (need : Need) (ps : List Need)
    → list_any (answers need) ps ≡ list_any (is_hit need.flags need.version) (map range_of (filter (is_named need.name) ps))
answered need [] = refl
answered need (p ∷ ps) = elim (cases_Bool (bytes_eq p.name need.name)) [
  | inl same ↦ rw same (ap (λ (b : Bool). overlaps p.flags p.version need.flags need.version || b) (answered need ps))
  | inr other ↦ rw other (answered need ps)
]

-- of ranges beside a number one hits where it does alone
beside : (n : ℕ) (need : Need) (rs : List (ℕ × List ℕ)) → list_any (hits need) (map (λ r. (n, r)) rs) ≡ list_any (is_hit need.flags need.version) rs
beside n need [] = refl
beside n need (r ∷ rs) = ap (λ (b : Bool). is_hit need.flags need.version r || b) (beside n need rs)

module _ (need : Need) (plain : (slice_index need.name 0 == 47) ≡ false) where
  given_header : (h : Header) → gives need h ≡ list_any (is_hit need.flags need.version) (ranges_in need.name h)
  given_header h =
      let file : is_file_of need h ≡ false =
      ap (λ (b : Bool). is_open need.flags need.version && (b && has_file h need.name)) plain
      ∙ never (is_open need.flags need.version) (has_file h need.name) in
      ap (λ (b : Bool). list_any (answers need) (provided_ranges h) || b) file ∙ or_never (list_any (answers need) (provided_ranges h))
      ∙ answered need (provided_ranges h)

  given_read : (r : Result Header HeaderFault) → read_gives need r ≡ list_any (is_hit need.flags need.version) (ranges_read need.name r)
  given_read (Ok h) = given_header h
  given_read (Err fault) = refl

  -- it meets a requirement where what it provides under the name does
  met_given : (e : ℕ × Package) → package_meets need e ≡ list_any (hits need) (given_ranges need.name e)
  met_given (n, Good bytes) = given_read (header bytes) ∙ sym (beside n need (ranges_read need.name (header bytes)))
  met_given (n, Bad) = refl

-- ---- a name alone

every : is_open 0 [] ≡ true
unfolding is_open
every = refl

every_hit : (name : List ℕ) (o : ℕ × (ℕ × List ℕ)) → hits (any_version_of name) o ≡ true
unfolding overlaps
every_hit name o = elim (cases_Bool (is_open o.1.0 o.1.1)) [ inl is ↦ rw is refl | inr not_open ↦ rw (not_open, every) refl ]

some_hit : {X : Type 0} (p q : X → Bool) → ((x : X) → q x ≡ true) → (xs : List X) → list_any p xs ≡ true → list_any q xs ≡ true
some_hit p q all [] is = absurd cc
some_hit p q all (x ∷ xs) is = rw (all x) refl

-- whoever meets a requirement provides its name
met_named : (need : Need) → (slice_index need.name 0 == 47) ≡ false → (e : ℕ × Package) → package_meets need e ≡ true
    → package_meets (any_version_of need.name) e ≡ true
met_named need plain e met =
    met_given (any_version_of need.name) plain e
    ∙ some_hit (hits need) (hits (any_version_of need.name)) (every_hit need.name) (given_ranges need.name e) (sym (met_given need plain e) ∙ met)

-- ---- all of them

-- what is asked of the ranges of each package is asked of all, where it is asked of no other package
any_under : (p : ℕ × (ℕ × List ℕ) → Bool) (q m : ℕ × Package → Bool) (name : List ℕ) → ((e : ℕ × Package) → list_any p (given_ranges name e) ≡ m e)
    → ((e : ℕ × Package) → m e ≡ true → q e ≡ true) → (es : List (ℕ × Package)) → list_any p (flat_map (given_ranges name) (filter q es)) ≡ list_any m es
any_under p q m name each among [] = refl
any_under p q m name each among (e ∷ es) =
    let rest = any_under p q m name each among es in
    elim (cases_Bool (q e)) [
      | inl takes ↦
          rw takes (list_any-append p (given_ranges name e) (flat_map (given_ranges name) (filter q es)) ∙ (λ i. each e i || rest i))
      | inr other ↦ elim (cases_Bool (m e)) [
        | inl is ↦ (let takes : q e ≡ true = among e is in absurd cc)
        | inr none ↦ rw (other, none) rest
      ]
    ]

-- of ranges beside a number one hits and has that number
beside_both : (n m : ℕ) (need : Need) (rs : List (ℕ × List ℕ))
    → list_any (λ o. (o.0 == n) && hits need o) (map (λ r. (m, r)) rs) ≡ ((m == n) && list_any (is_hit need.flags need.version) rs)
beside_both n m need [] = and_false (m == n)
beside_both n m need (r ∷ rs) =
    ap (λ (b : Bool). ((m == n) && is_hit need.flags need.version r) || b) (beside_both n m need rs)
    ∙ both_or (m == n) (is_hit need.flags need.version r) (list_any (is_hit need.flags need.version) rs)

in_kept : (n : ℕ) (m : ℕ × Package → Bool) (es : List (ℕ × Package)) → is_in n (map (λ e. e.0) (filter m es)) ≡ list_any (λ e. (e.0 == n) && m e) es
in_kept n m [] = refl
in_kept n m (e ∷ es) = elim (cases_Bool (m e)) [
  | inl takes ↦ rw takes (λ i. and_true (e.0 == n) i || in_kept n m es i)
  | inr other ↦ rw other (in_kept n m es ∙ (λ i. and_false (e.0 == n) i || list_any (λ e. (e.0 == n) && m e) es))
]

module _ (all : FinMap nat_cmp Package) (need : Need) (plain : (slice_index need.name 0 == 47) ≡ false) where
  abbrev named : ℕ × Package → Bool
  named = package_meets (any_version_of need.name)

  pub met_by_offers : list_any (hits need) (offered_ranges need.name all) ≡ is_met all need
  unfolding is_met
  met_by_offers =
      any_under (hits need) named (package_meets need) need.name (λ e. sym (met_given need plain e)) (met_named need plain) (entries all)

  both_given : (n : ℕ) (e : ℕ × Package) → list_any (λ o. (o.0 == n) && hits need o) (given_ranges need.name e) ≡ ((e.0 == n) && package_meets need e)
  both_given n e =
      beside_both n e.0 need (ranges_given need.name e.1)
      ∙ ap (λ (b : Bool). (e.0 == n) && b) (sym (beside e.0 need (ranges_given need.name e.1)) ∙ sym (met_given need plain e))

  giver_by_offers : (n : ℕ) → list_any (λ o. (o.0 == n) && hits need o) (offered_ranges need.name all) ≡ is_in n (givers all need)
  unfolding givers
  giver_by_offers n =
      any_under (λ o. (o.0 == n) && hits need o) named (λ e. (e.0 == n) && package_meets need e) need.name (both_given n)
      (λ e both. met_named need plain e (and_parts (e.0 == n) (package_meets need e) both).1) (entries all)
      ∙ sym (in_kept n (package_meets need) (entries all))

  givers_rise : Rises (givers all need)
  unfolding givers
  givers_rise = numbers_rise (package_meets need) (entries all) (finite.entries_sorted all)

  -- rising numbers of those that hit are those of the packages that meet the requirement
  pub givers_by_offers : (ns : List ℕ) → IsStrictlyIncreasing ns
      → ((n : ℕ) → is_in n ns ≡ list_any (λ o. (o.0 == n) && hits need o) (offered_ranges need.name all)) → ns ≡ givers all need
  givers_by_offers ns rising same = same_members ns (givers all need) (rises ns rising) givers_rise (λ n. same n ∙ giver_by_offers n)

-- ---- what is kept of them

seen : (p : ℕ × (ℕ × List ℕ) → Bool) (os : List Offer) → list_any (λ o. p (offer_in o)) os ≡ list_any p (map offer_in os)
seen p [] = refl
seen p (o ∷ os) = ap (λ (b : Bool). p (offer_in o) || b) (seen p os)

module _ (all : FinMap nat_cmp Package) (name : List ℕ) (sorted : List Offer) where
  -- what was read, in another order
  pub offered_sorted : (os : List Offer) → map offer_in os ≡ offered_ranges name all → IsPermutation os sorted → IsSorted offer_order sorted
      → IsOffered all name sorted
  unfolding IsOffered
  offered_sorted os are moved in_order =
      (in_order, λ p. sym (list_any-IsPermutation (λ o. p (offer_in o)) os sorted moved) ∙ seen p os ∙ ap (list_any p) are)

  module _ (offered : IsOffered all name sorted) where
    pub offered_order : IsSorted offer_order sorted
    unfolding IsOffered
    offered_order = offered.0

    pub offered_same : (p : ℕ × (ℕ × List ℕ) → Bool) → list_any (λ o. p (offer_in o)) sorted ≡ list_any p (offered_ranges name all)
    unfolding IsOffered
    offered_same = offered.1

-- what is kept under a plain name, and is looked through
module _ (all : FinMap nat_cmp Package) (need : Need) {kept run : List Offer} (offered : IsOffered all need.name kept)
    (plain : (slice_index need.name 0 == 47) ≡ false) (looked : run ≡ kept) where
  kept_order : IsSorted offer_order run
  kept_order = subst (IsSorted offer_order) (sym looked) (offered_order all need.name kept offered)

  kept_same : (p : ℕ × (ℕ × List ℕ) → Bool) → list_any (λ o. p (offer_in o)) run ≡ list_any p (offered_ranges need.name all)
  kept_same p = ap (list_any (λ (o : Offer). p (offer_in o))) looked ∙ offered_same all need.name kept offered p

  pub met_kept : (met : Bool) → (IsSorted offer_order run → met ≡ list_any (λ o. hits need (offer_in o)) run) → met ≡ is_met all need
  met_kept met same = same kept_order ∙ kept_same (hits need) ∙ met_by_offers all need plain

  pub givers_kept : (ns : List ℕ) → IsStrictlyIncreasing ns
      → (IsSorted offer_order run → (n : ℕ) → is_in n ns ≡ list_any (λ o. (o.number == n) && hits need (offer_in o)) run)
      → ns ≡ givers all need
  givers_kept ns rising same =
      givers_by_offers all need plain ns rising (λ n. same kept_order n ∙ kept_same (λ o. (o.0 == n) && hits need o))

-- ---- one after the other

-- what those above n of the packages that are picked provide under a name
abbrev pub offers_above : FinMap nat_cmp Package → Selection → List ℕ → ℕ → List (ℕ × (ℕ × List ℕ))
offers_above all sel name n = flat_map (given_ranges name) (above n (picks all sel))

number_of : (p : Picked) → (entry_in p).0 ≡ number_in p
number_of (picked.Good number blob) = refl
number_of (picked.Bad number) = refl

-- what one more provides is pushed
pub offers_gained : (all : FinMap nat_cmp Package) (sel : Selection) (name : List ℕ) (n m : ℕ) (p : Picked) (os new whole : List (ℕ × (ℕ × List ℕ)))
    → NextIs (above n (picks all sel)) (Ok (Some p)) → m ≡ number_in p → new ≡ os ++ given_ranges name (entry_in p) → os ++ offers_above all sel name n ≡ whole
    → new ++ offers_above all sel name m ≡ whole
offers_gained all sel name n m p os new whole next is added so_far =
    let own = given_ranges name (entry_in p) in
    let later = offers_above all sel name m in
    let one : offers_above all sel name n ≡ own ++ later =
    ap (flat_map (given_ranges name)) (next_picked all sel n (entry_in p) next.0 next.1)
    ∙ ap (λ (k : ℕ). own ++ offers_above all sel name k) (number_of p ∙ sym is) in
    ap (λ (xs : List (ℕ × (ℕ × List ℕ))). xs ++ later) added ∙ append_assoc os own later
    ∙ ap (λ (xs : List (ℕ × (ℕ × List ℕ))). os ++ xs) (sym one) ∙ so_far

-- no more
pub offers_all : (file : Units) (db : Database) (sel : Selection) (name : List ℕ) (n : ℕ) (os : List (ℕ × (ℕ × List ℕ))) → Keeps file db
    → above n (picks (packages file (store_of db)) sel) ≡ []
    → os ++ offers_above (packages file (store_of db)) sel name n ≡ offers_above (packages file (store_of db)) sel name 0
    → os ≡ flat_map (given_ranges name) (picks (packages file (store_of db)) sel)
offers_all file db sel name n os keeps none so_far =
    sym (append-nil os) ∙ ap (λ (es : List (ℕ × Package)). os ++ flat_map (given_ranges name) es) (sym none) ∙ so_far
    ∙ ap (flat_map (given_ranges name)) (picks_from_one file db sel (from_one file db keeps))
