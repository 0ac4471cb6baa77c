-- A requirement is met where its capability is provided.
use Rattle.std.proofs.Common.{◌≡◌, ℕ, List, map, ◌==◌, ◌||◌, Ok, Err, refl, ap, ◌∙◌}
use Rattle.std.specs.Prelude.{◌&&◌, Result, slice_index}
use Rattle.rpm_check.proofs.Vocabulary.{answers, Bad, bytes_eq, CapabilityParts, entries, filter, FinMap, givers, gives, Good, has_file, Header, header, HeaderFault}
use Rattle.rpm_check.proofs.Vocabulary.{is_file_of, is_met, is_open, is_picked, is_some_of, package_meets, nat_cmp, Need, overlaps, Package, picks, provided_ranges}
use Rattle.rpm_check.proofs.Vocabulary.{Provides, read_gives, takes_header, takes_read}
use Rattle.rpm_select.specs.Selections.{needed_by}
use Rattle.rpm_check.proofs.Picking.{is_some_of-filter, list_any_same, filter_same}

-- a capability stands for a requirement
pub record StandsFor (c : CapabilityParts) (need : Need) : Type 0 where
  pub name : c.name ≡ need.name
  pub plain : is_open c.flags c.evr ≡ is_open need.flags need.version
  pub same : (f : ℕ) (v : List ℕ) → overlaps f v c.flags c.evr ≡ overlaps f v need.flags need.version

module _ (c : CapabilityParts) (need : Need) (stands : StandsFor c need) where
  same_answer : (given : Need) → answers (needed_by c) given ≡ answers need given
  same_answer given = λ i. bytes_eq given.name (stands.name i) && stands.same given.flags given.version i

  same_file : (h : Header) → is_file_of (needed_by c) h ≡ is_file_of need h
  same_file h = λ i. stands.plain i && (slice_index (stands.name i) 0 == 47 && has_file h (stands.name i))

  same_header : (n : ℕ) (h : Header) → takes_header (Provides c) n h ≡ gives need h
  unfolding takes_header
  same_header n h = λ i. list_any_same (answers (needed_by c)) (answers need) same_answer (provided_ranges h) i || same_file h i

  same_read : (n : ℕ) (r : Result Header HeaderFault) → takes_read (Provides c) n r ≡ read_gives need r
  same_read n (Ok h) = same_header n h
  same_read n (Err fault) = refl

  same_package : (e : ℕ × Package) → is_picked (Provides c) e ≡ package_meets need e
  same_package (n, Good bytes) = same_read n (header bytes)
  same_package (n, Bad) = refl

  pub met_is : (packages : FinMap nat_cmp Package) → is_some_of (picks packages (Provides c)) ≡ is_met packages need
  unfolding picks is_met
  met_is packages =
      is_some_of-filter (is_picked (Provides c)) (entries packages)
      ∙ list_any_same (is_picked (Provides c)) (package_meets need) same_package (entries packages)

  -- it picks those that meet the requirement
  pub picks_are : (packages : FinMap nat_cmp Package) → picks packages (Provides c) ≡ filter (package_meets need) (entries packages)
  unfolding picks
  picks_are packages = filter_same (is_picked (Provides c)) (package_meets need) same_package (entries packages)

  -- and of the packages that meet it
  pub givers_are : (packages : FinMap nat_cmp Package) → map (λ e. e.0) (picks packages (Provides c)) ≡ givers packages need
  unfolding picks givers
  givers_are packages = ap (map (λ e. e.0)) (filter_same (is_picked (Provides c)) (package_meets need) same_package (entries packages))
