-- A blob is put after the slot page that its plan asks for.
use Rattle.std.proofs.Common.{◌≡◌, ◌≢◌, ◌⊎◌, inl, inr, set, ℕ, ◌+◌, ◌*◌, ◌^◌, ◌<◌, ◌≤◌, List, length, true, false, Option, Some, sym, ap, ◌∙◌, subst, arith}
use Rattle.std.specs.FinMap as finite
use Rattle.rpm_pkgdb.proofs.Vocabulary.{AreFreed, blank, BlobMap, blobs, blocks_for, CanPut, end_of, field_after, free, grown, has_number, is_used, IsKept}
use Rattle.rpm_pkgdb.proofs.Vocabulary.{IsPlan, KeepsBlank, Move, moves_of, next_field, Pairs, Plan, PutsTo, Slot, slot_at, slot_for, Represents, Store}
use Rattle.rpm_pkgdb.proofs.Vocabulary.{unit_at, Units}
use Rattle.std.proofs.lemmas.Bool.Decides.{nat_tests}
use Rattle.rpm_pkgdb.proofs.Facts.{cases_Bool}
use Rattle.rpm_pkgdb.proofs.FreedLaws.{freed_put, decide_block}
use Rattle.rpm_pkgdb.proofs.PlannedLaws.{grown_kept, none_for, grown_made, may_grow}

module _ (v : Store) (plan : Plan) (is : IsPlan v plan) (made : 1 ≤ v.pages) where
  abbrev pub after : Store
  after = grown (moves_of plan.page) v

  pub was_held : plan.target.is_new ≡ false → has_number plan.target.number (slot_at v.slots plan.target.place) ≡ true
  was_held not_new =
      ap (λ (o : Option (List Move)). has_number plan.target.number (slot_at (grown o v).slots plan.target.place))
      (sym (none_for v plan.target.is_new (moves_of plan.page) is.page not_new)) ∙ is.target.held not_new

  pub same_held : (old : Slot) → (plan.target.is_new ≡ false → old ≡ slot_at v.slots plan.target.place) → plan.target.is_new ≡ false
      → old ≡ slot_at after.slots plan.target.place
  same_held old held not_new =
      held not_new ∙ ap (λ (o : Option (List Move)). slot_at (grown o v).slots plan.target.place)
      (sym (none_for v plan.target.is_new (moves_of plan.page) is.page not_new))

  pub place_fits : (numbers : Pairs) → IsKept numbers v.pages v.slots → plan.target.place + 3 ≤ 2 ^ 28
  place_fits numbers kept =
      let k = grown_kept numbers v kept made (moves_of plan.page) (may_grow v plan.target.is_new (moves_of plan.page) is.page) in
      omega (arith, is.target.below, k.count, k.limit)

  module _ (blob : List ℕ) (length_is : plan.target.length ≡ length blob) where
    pub few_bytes : length blob ≤ 68157432
    few_bytes = omega (arith, is.target.few, length_is)

    pub room : plan.target.start + blocks_for (length blob) ≤ 2 ^ 28
    room = subst (λ (n : ℕ). plan.target.start + blocks_for n ≤ 2 ^ 28) length_is is.target.start.fits.ends

    pub can_put : (gen : ℕ) → gen ≡ v.generation → gen < 2 ^ 32 → (old : Slot) → (plan.target.is_new ≡ true → old ≡ free)
        → (plan.target.is_new ≡ false → old ≡ slot_at v.slots plan.target.place) → CanPut after plan.target gen old blob
    can_put gen gen_is fits old new held = record {
      made = grown_made v (moves_of plan.page) made;
      target_is = is.target;
      length_is = length_is;
      generation_is = gen_is;
      fits = fits;
      new = new;
      replaced = same_held old held;
    }

    -- what crashes leave is told of the blobs from before the page
    pub puts_from : (F0 F1 image : Units) → blobs F1 after ≡ blobs F0 v → PutsTo after plan.target blob F1 image → PutsTo v plan.target blob F0 image
    puts_from F0 F1 image same =
        subst (λ (B : BlobMap). PutsTo after plan.target blob F1 image
        → Represents v.generation v.field B image
        ⊎ (Represents v.generation (field_after (next_field plan.target) v.field) B image
        ⊎ Represents v.generation (field_after (next_field plan.target) v.field) (finite.insert B plan.target.number (Some blob)) image)) same (λ p. p)

  far_used : (s : Slot) (pages : ℕ) → 1 ≤ pages → 256 * pages ≤ s.offset → is_used s ≡ true
  far_used s pages some behind = let far : s.offset ≢ 0 = omega arith in grind (arith, nat_tests)

  -- a used slot at the plan's place is the one that is replaced
  pub at_place : (old : Slot) → (plan.target.is_new ≡ false → old ≡ slot_at v.slots plan.target.place) → is_used (slot_at after.slots plan.target.place) ≡ true
      → slot_at after.slots plan.target.place ≡ old
  at_place old held used = elim (cases_Bool plan.target.is_new) [
    | inl new ↦ absurd (let unused = (is.target.new new).1.unused in let e : true ≡ false = sym used ∙ unused in cc)
    | inr not_new ↦ sym (same_held old held not_new)
  ]

  pub put_freed : (numbers : Pairs) → IsKept numbers v.pages v.slots → (old : Slot) → (plan.target.is_new ≡ false → old ≡ slot_at v.slots plan.target.place)
      → (F0 F1 F2 : Units) → AreFreed (256 * after.pages) v.slots F0 after.slots F1
      → ((i : ℕ) → old.offset ≤ i → i < end_of old → unit_at F2 i ≡ blank)
      → KeepsBlank (plan.target.place + 3) plan.target.start (blocks_for plan.target.length) F1 F2
      → AreFreed (256 * after.pages) v.slots F0 (set after.slots plan.target.place (slot_for plan.target)) F2
  put_freed numbers kept old held F0 F1 F2 freed zeros blanks =
      let k = grown_kept numbers v kept made (moves_of plan.page) (may_grow v plan.target.is_new (moves_of plan.page) is.page) in
      let some = grown_made v (moves_of plan.page) made in
      freed_put (256 * after.pages) v.slots after.slots plan.target.place (slot_for plan.target) old F0 F1 F2 is.target.below
      (far_used (slot_for plan.target) after.pages some is.target.start.from_on) (at_place old held) (omega (arith, is.target.below, k.count, some)) freed zeros
      blanks (decide_block after.slots)
