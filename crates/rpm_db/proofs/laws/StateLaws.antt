-- The state that a change makes.
use Rattle.std.proofs.Common.{◌≡◌, ℕ, ◌+◌, ◌≤◌, ◌<◌, Bool, true, false, cond, ◌==◌, List, [], ◌∷◌, map, max, Option}
use Rattle.std.proofs.Common.{Some, None, is_some, Ok, refl, sym, ap, ◌∙◌, inl, inr, arith}
use Rattle.std.specs.List.{filter}
use Rattle.std.specs.Option.{option_map}
use Rattle.std.specs.Ordering.{nat_cmp, eq_by_cmp}
use Rattle.std.specs.Cmp.{unsigned_tied}
use Rattle.std.specs.FinMap as finite
use Rattle.std.proofs.lemmas.Bool.{cases_Bool}
use Rattle.std.proofs.lemmas.Bool.Decides.{nat_tests}
use Rattle.std.proofs.lemmas.Cmp.{nat_cmp_total}
use Rattle.rpm_header.specs.Header.{Header, header}
use Rattle.rpm_outside.specs.Files.{Units}
use Rattle.rpm_pkgdb.specs.declared.slot.Slot.{Slot}
use Rattle.rpm_pkgdb.specs.Blobs.{blobs}
use Rattle.rpm_pkgdb.specs.laws.Parts.{entry_of_slot}
use Rattle.rpm_pkgdb.specs.Quiet.{BlobMap}
use Rattle.rpm_pkgdb.specs.Slots.{is_used, slot_with}
use Rattle.rpm_pkgdb.specs.laws.Parts.{greatest_number}
use Rattle.rpm_pkgdb.specs.Store.{Store, next_number}
use Rattle.rpm_db.specs.Changes.{greatest_in, next}
use Rattle.rpm_db.specs.State.{Package, Good, package_of, packages, state}
use Rattle.rpm_db.specs.laws.Parts.{read_as}
use Rattle.rpm_db.proofs.laws.PackageLaws.{find-map, get-packages}
use Rattle.rpm_db.specs.inner.Writes.{packages_of, state_with, state_of}

pub packages-blobs : (file : Units) (value : Store) → packages file value ≡ packages_of (blobs file value)
unfolding packages
packages-blobs file value = refl

pub state-blobs : (file : Units) (value : Store) → state file value ≡ state_of (blobs file value) value.field
state-blobs file value =
    ap (λ (p : finite.FinMap nat_cmp Package). state_with p value.field) (packages-blobs file value)

get-of : (map : BlobMap) (n : ℕ) → finite.get (packages_of map) n ≡ option_map package_of (finite.get map n)
get-of map n =
    finite.get-from_entries nat_cmp_total _ n
    ∙ find-map package_of n (finite.entries map)
    ∙ ap (option_map package_of) (sym (finite.get-entries map n))

-- a blob more, or another one
pub packages-insert : (map : BlobMap) (n : ℕ) (blob : Option (List ℕ)) → packages_of (finite.insert map n blob)
    ≡ finite.insert (packages_of map) n (package_of blob)
packages-insert map n blob = finite.same_map nat_cmp_total finite.nat_cmp-IsAntisymmetric _ _ (λ q.
    get-of (finite.insert map n blob) q
    ∙ ap (option_map package_of) (finite.get-insert nat_cmp_total map n blob q)
    ∙ either (eq_by_cmp nat_cmp q n) q
    ∙ sym (finite.get-insert nat_cmp_total (packages_of map) n (package_of blob) q))
  where
    either : (b : Bool) (q : ℕ) → option_map package_of (cond b (Some blob) (finite.get map q))
        ≡ cond b (Some (package_of blob)) (finite.get (packages_of map) q)
    either true q = refl
    either false q = sym (get-of map q)

-- a blob less
pub packages-remove : (map : BlobMap) (n : ℕ) → packages_of (finite.remove map n) ≡ finite.remove (packages_of map) n
packages-remove map n = finite.same_map nat_cmp_total finite.nat_cmp-IsAntisymmetric _ _ (λ q.
    get-of (finite.remove map n) q
    ∙ ap (option_map package_of) (finite.get-remove nat_cmp_total map n q)
    ∙ either (eq_by_cmp nat_cmp q n) q
    ∙ sym (finite.get-remove nat_cmp_total (packages_of map) n q))
  where
    either : (b : Bool) (q : ℕ) → option_map package_of (cond b None (finite.get map q))
        ≡ cond b None (finite.get (packages_of map) q)
    either true q = refl
    either false q = sym (get-of map q)

-- a header's own bytes are its package
pub package-own : (h : Header) → header h.blob ≡ Ok h → package_of (Some h.blob) ≡ Good h.blob
package-own h is = ap read_as is

-- ---- the number of the next package

-- two lists of which the same numbers can be found have the same greatest number
module _ {X : Type 0} where
  pub below_greatest : (es : List (ℕ × X)) (n : ℕ) → is_some (finite.find nat_cmp n es) ≡ true → n ≤ greatest_in es
  below_greatest [] n there = absurd cc
  below_greatest (e ∷ es) n there = elim (cases_Bool (n == e.0)) [
    | inl same ↦ (let is : n ≡ e.0 = grind (arith, nat_tests) in omega (arith, is))
    | inr other ↦
        (let tied : eq_by_cmp nat_cmp n e.0 ≡ false = unsigned_tied n e.0 ∙ other in
        let rest = below_greatest es n (rw tied at there) in
        omega (arith, rest))
  ]

  pub found_greatest : (es : List (ℕ × X)) → 0 < greatest_in es
      → is_some (finite.find nat_cmp (greatest_in es) es) ≡ true
  found_greatest [] some = absurd (omega (arith, some))
  found_greatest (e ∷ es) some =
      let n = max e.0 (greatest_in es) in
      elim (cases_Bool (n == e.0)) [
        | inl same ↦ (let tied : eq_by_cmp nat_cmp n e.0 ≡ true = unsigned_tied n e.0 ∙ same in rw tied refl)
        | inr other ↦
            (let apart : n ≡ e.0 → ⊥ = λ is. grind (arith, nat_tests) in
            let rest : n ≡ greatest_in es = omega (arith, apart) in
            let tied : eq_by_cmp nat_cmp n e.0 ≡ false = unsigned_tied n e.0 ∙ other in
            rw tied (ap (λ (k : ℕ). is_some (finite.find nat_cmp k es)) rest
            ∙ found_greatest es (omega (arith, some, rest))))
      ]

  no_greater : (Y : Type 0) (es : List (ℕ × X)) (fs : List (ℕ × Y))
      → ((n : ℕ) → is_some (finite.find nat_cmp n es) ≡ true → n ≤ greatest_in fs) → greatest_in es ≤ greatest_in fs
  no_greater Y es fs each = elim (cases_Bool (greatest_in es == 0)) [
    | inl none ↦ (let is : greatest_in es ≡ 0 = grind (arith, nat_tests) in omega (arith, is))
    | inr some ↦ (let lt : 0 < greatest_in es = grind (arith, nat_tests) in
        each (greatest_in es) (found_greatest es lt))
  ]

same_greatest : {X Y : Type 0} (es : List (ℕ × X)) (fs : List (ℕ × Y))
    → ((n : ℕ) → is_some (finite.find nat_cmp n es) ≡ is_some (finite.find nat_cmp n fs))
    → greatest_in es ≡ greatest_in fs
same_greatest {X} {Y} es fs same =
    let le = no_greater Y es fs (λ n there. below_greatest fs n (sym (same n) ∙ there)) in
    let ge = no_greater X fs es (λ n there. below_greatest es n (same n ∙ there)) in
    omega (arith, le, ge)

greatest_of_slots : (file : Units) (slots : List Slot)
    → greatest_in (map (entry_of_slot file) (filter is_used slots)) ≡ greatest_number slots
greatest_of_slots file [] = refl
greatest_of_slots file (s ∷ ss) = elim (cases_Bool (is_used s)) [
  | inl used ↦ rw used (ap (max s.number) (greatest_of_slots file ss))
  | inr free ↦ rw free (omega (arith, greatest_of_slots file ss))
]

there_map : (o : Option (Option (List ℕ))) → is_some (option_map package_of o) ≡ is_some o
there_map None = refl
there_map (Some x) = refl

there_in_slots : (file : Units) (value : Store) (n : ℕ)
    → is_some (finite.find nat_cmp n (finite.entries (packages file value)))
    ≡ is_some (finite.find nat_cmp n (map (entry_of_slot file) (filter is_used value.slots)))
unfolding blobs
there_in_slots file value n =
    ap is_some (sym (finite.get-entries (packages file value) n) ∙ get-packages file value n)
    ∙ there_map (finite.get (blobs file value) n)
    ∙ ap is_some (finite.get-from_entries nat_cmp_total (map (entry_of_slot file) (filter is_used value.slots)) n)

-- the next number of a state is that of its store
pub next-state : (file : Units) (value : Store) → next (state file value) ≡ next_number value
next-state file value =
    ap (λ (n : ℕ). max value.field (n + 1))
    (same_greatest (finite.entries (packages file value)) (map (entry_of_slot file) (filter is_used value.slots))
    (there_in_slots file value)
    ∙ greatest_of_slots file value.slots)

-- no slot has a number above the greatest
none_greater : (slots : List Slot) (n : ℕ) → greatest_number slots < n → slot_with n slots ≡ None
none_greater [] n above = refl
none_greater (s ∷ ss) n above = elim (cases_Bool (is_used s)) [
  | inl used ↦
      (let number : s.number ≤ greatest_number (s ∷ ss) = rw used (omega arith) in
      let other : (s.number == n) ≡ false = grind (arith, nat_tests) in
      let rest : greatest_number ss < n = (let le : greatest_number ss ≤ greatest_number (s ∷ ss) = omega arith in
      omega (arith, above, le)) in
      rw (used, other) (none_greater ss n rest))
  | inr free ↦
      (let rest : greatest_number ss < n = (let le : greatest_number ss ≤ greatest_number (s ∷ ss) = omega arith in
      omega (arith, above, le)) in
      rw free (none_greater ss n rest))
]

-- so there is no package of the next number
pub next_is_free : (value : Store) → slot_with (next_number value) value.slots ≡ None
next_is_free value = none_greater value.slots (next_number value) (omega arith)
