-- The map of the blobs at a number.
use Rattle.std.proofs.Common.{◌≡◌, ℕ, List, [], ◌∷◌, true, false, map, ◌==◌, Option, Some, None, is_some, refl, sym, ap}
use Rattle.std.proofs.Common.{◌∙◌, inl, inr, arith, eq-eqb}
use Rattle.std.specs.List.{filter}
use Rattle.std.specs.Option.{option_map}
use Rattle.std.specs.Ordering.{nat_cmp, eq_by_cmp}
use Rattle.std.specs.Cmp.{unsigned_tied}
use Rattle.std.specs.FinMap as finite
use Rattle.std.proofs.lemmas.Bool.{cases_Bool}
use Rattle.std.proofs.lemmas.Bool.Decides.{nat_tests}
use Rattle.std.proofs.lemmas.Cmp.{nat_cmp_total}
use Rattle.rpm_outside.specs.Files.{Units}
use Rattle.rpm_pkgdb.specs.declared.slot.Slot.{Slot}
use Rattle.rpm_pkgdb.specs.Slots.{is_used, slot_with}
use Rattle.rpm_pkgdb.specs.Store.{Store}
use Rattle.rpm_pkgdb.specs.Blobs.{frame_of, frames, blob_in, blobs}
use Rattle.rpm_pkgdb.specs.laws.Parts.{entry_of_slot}

find-entries : (file : Units) (n : ℕ) (slots : List Slot)
    → finite.find nat_cmp n (map (entry_of_slot file) (filter is_used slots))
    ≡ option_map (λ s. option_map blob_in (frame_of n s file)) (slot_with n slots)
find-entries file n [] = refl
find-entries file n (s ∷ ss) = elim (cases_Bool (is_used s)) [
  | inr free ↦ rw free (find-entries file n ss)
  | inl used ↦ elim (cases_Bool (s.number == n)) [
    | inl same ↦
        (let is : s.number ≡ n = grind (arith, nat_tests) in
        let tied : eq_by_cmp nat_cmp n s.number ≡ true = unsigned_tied n s.number ∙ eq-eqb n s.number (sym is) in
        rw (used, same) (rw tied (ap (λ (k : ℕ). Some (option_map blob_in (frame_of k s file))) is)))
    | inr other ↦
        (let apart : eq_by_cmp nat_cmp n s.number ≡ false = unsigned_tied n s.number ∙ grind (arith, nat_tests) in
        rw (used, other) (rw apart (find-entries file n ss)))
  ]
]

-- None where no slot has the number, and Some None where the framing is broken
pub get-blobs : (file : Units) (store : Store) (n : ℕ)
    → finite.get (blobs file store) n ≡ option_map (λ s. option_map blob_in (frame_of n s file))
    (slot_with n store.slots)
unfolding blobs
get-blobs file store n = finite.get-from_entries nat_cmp_total (map (entry_of_slot file) (filter is_used store.slots)) n
    ∙ find-entries file n store.slots

pub get-blobs-frames : (file : Units) (store : Store) (n : ℕ)
    → finite.get (blobs file store) n ≡ option_map (option_map blob_in) (frames file store n)
get-blobs-frames file store n = get-blobs file store n ∙ twice (slot_with n store.slots)
  where
    twice : (o : Option Slot) → option_map (λ s. option_map blob_in (frame_of n s file)) o
        ≡ option_map (option_map blob_in) (option_map (λ s. frame_of n s file) o)
    twice None = refl
    twice (Some s) = refl

-- the numbers of the map are those that slots have
pub is_some-get-blobs : (file : Units) (store : Store) (n : ℕ)
    → is_some (finite.get (blobs file store) n) ≡ is_some (slot_with n store.slots)
is_some-get-blobs file store n = ap is_some (get-blobs file store n) ∙ mapped (slot_with n store.slots)
  where
    mapped : (o : Option Slot) → is_some (option_map (λ s. option_map blob_in (frame_of n s file)) o) ≡ is_some o
    mapped None = refl
    mapped (Some s) = refl
