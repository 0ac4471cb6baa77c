-- What a put leaves, for its caller.
use Rattle.std.proofs.Common.{◌≡◌, inl, inr, ℕ, ◌+◌, ◌-◌, ◌<◌, ◌≤◌, length, take, drop, true, false, Option, Some, None, sym, ap, ◌∙◌, subst, arith}
use Rattle.rpm_pkgdb.proofs.Vocabulary.{AreZeros, blank, end_of, has_number, HasUnits, KeepsStore, next_number, Slot, slot_at, slot_with, Store, Target, unit_at}
use Rattle.rpm_pkgdb.proofs.Vocabulary.{Units}
use Rattle.rpm_pkgdb.proofs.Facts.{cases_Bool, number_facts}
use Rattle.rpm_pkgdb.proofs.Made.{made}
use Rattle.rpm_pkgdb.proofs.FramingLaws.{held_part}
use Rattle.rpm_pkgdb.proofs.Places.{Search, search_for, with_at}
use Rattle.rpm_pkgdb.proofs.Places.Search.{Here, Nowhere}
use Rattle.rpm_pkgdb.proofs.PutsLaws.{number_le}

-- units that stand at a place
pub whole_part : (file : Units) (at n : ℕ) (us : Units) → length us ≡ n → HasUnits file at us → take n (drop at file) ≡ us
whole_part file at n us long holds =
    let a : n ≡ length us - 0 = omega arith in
    let b : at ≡ at + 0 = omega arith in
    ap (λ (k : ℕ). take k (drop at file)) a ∙ ap (λ (k : ℕ). take (length us - 0) (drop k file)) b ∙ held_part file at us 0 holds (omega arith)

module _ (st : Store) (target : Target) (new_is : target.is_new ≡ true → target.number ≡ next_number st)
    (held_is : target.is_new ≡ false → has_number target.number (slot_at st.slots target.place) ≡ true) where
  -- a new number has no slot
  new_absent : target.is_new ≡ true → (x : Search target.number st.slots) → slot_with target.number st.slots ≡ None
  new_absent new (Nowhere none at_none) = at_none
  new_absent new (Here k below has found) =
      let f = number_facts target.number (slot_at st.slots k) has in
      absurd (omega (arith, new_is new, f.number, number_le st.slots k f.used))

  -- the blocks that are replaced are zeros
  pub replaced_zeros : (file image : Units) (old : Slot) → 1 ≤ st.pages → KeepsStore file st → (target.is_new ≡ false → old ≡ slot_at st.slots target.place)
      → ((i : ℕ) → old.offset ≤ i → i < end_of old → unit_at image i ≡ blank) → AreZeros (slot_with target.number st.slots) image
  replaced_zeros file image old some keeps held zeros = elim (cases_Bool target.is_new) [
    | inl new ↦ subst (λ (o : Option Slot). AreZeros o image) (sym (new_absent new (search_for target.number st.slots))) tt
    | inr not_new ↦
        (let m = made file st keeps some in
        let found : slot_with target.number st.slots ≡ Some old =
        with_at st.pages (length file) st.slots m.sound target.number target.place (held_is not_new) ∙ ap Some (sym (held not_new)) in
        subst (λ (o : Option Slot). AreZeros o image) (sym found) zeros)
  ]
