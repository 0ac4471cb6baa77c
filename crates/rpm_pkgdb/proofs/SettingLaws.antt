-- What a crash leaves while a slot is set.
use Rattle.std.proofs.Common.{◌≡◌, ◌≢◌, ◌⊎◌, inl, inr, ℕ, ◌+◌, ◌-◌, ◌*◌, ◌<◌, ◌≤◌, List, [], ◌∷◌, length, true, sym, ap, ◌∙◌, subst, arith, set, get_or-set_same, get_or-set_other}
use Rattle.std.proofs.lemmas.Bool.{cases_eq}
use Rattle.std.proofs.lemmas.Bool.Decides.{nat_tests}
use Rattle.rpm_pkgdb.proofs.Vocabulary.{AreSound, CanSet, end_of, free, HasUnits, is_used, IsClear, IsPlaced, IsSlotUnit, with_units, SameOutside, Slot, slot_at}
use Rattle.rpm_pkgdb.proofs.Vocabulary.{RepresentsStore, RepresentsSlot, Store, Torn, unit_at, Units, with_slot}
use Rattle.rpm_pkgdb.proofs.Made.{made, from_made}
use Rattle.rpm_pkgdb.proofs.ClearLaws.{torn_one, put_elsewhere, put_length, put_sound, set_made, outside_made, outside_blocks}
use Rattle.rpm_pkgdb.proofs.Erases.{blocks_then}

module _ (st : Store) (place : ℕ) (s : Slot) (can : CanSet st place s) where
  abbrev after : Store
  after = with_slot place s st

  set_at : slot_at after.slots place ≡ s
  set_at = get_or-set_same st.slots place s free can.below

  kept_at : (j : ℕ) → j ≢ place → slot_at after.slots j ≡ slot_at st.slots j
  kept_at j other = get_or-set_other st.slots place j s free other

  set_clear : IsClear st s.offset s.count
  set_clear = record { behind = can.behind; apart = can.fits.apart }

  pub aside_stands : (file from mid : Units) → RepresentsStore st file from → SameOutside s.offset s.count from mid → RepresentsStore st file mid
  aside_stands file from mid stands same =
      let m = made from st stands.keeps can.made in
      record {
        keeps = from_made mid st (outside_made from st m s.offset s.count mid set_clear same);
        blocks = blocks_then st.slots file from mid stands.blocks (outside_blocks from st m s.offset s.count mid set_clear same);
      }

  slot_placed : (units : ℕ) → end_of s ≤ units → IsPlaced st.pages units s
  slot_placed units inside = record { number = can.number.0; few = can.number.1; behind = can.behind; some = can.some; inside = inside; below = can.fits.ends }

  pub set_sound : (units : ℕ) → end_of s ≤ units → AreSound st.pages units st.slots → AreSound st.pages units (set st.slots place s)
  set_sound units inside sound =
      put_sound st.pages units st.slots sound place can.below s (slot_placed units inside)
      (λ j differs used. record { numbers = can.others j differs used; blocks = can.fits.apart j used })

  -- a part of the old slot's blocks is clear of the new value's
  pub old_clear : (units : ℕ) → AreSound st.pages units st.slots → (old : Slot) → slot_at st.slots place ≡ old → is_used old ≡ true → (at n : ℕ)
      → old.offset ≤ at → at + n ≤ end_of old → IsClear after at n
  old_clear units sound old is used_old at n low high =
      let used_k : is_used (slot_at st.slots place) ≡ true = ap is_used is ∙ used_old in
      record {
        behind = omega (arith, low, subst (λ (t : Slot). 256 * st.pages ≤ t.offset) is (sound.placed place used_k).behind);
        apart = λ j used. elim (cases_eq j place) [
          | inl here ↦
              (let now : slot_at after.slots j ≡ s = ap (slot_at after.slots) here ∙ set_at in
              let both = subst (λ (t : Slot). (s.offset + s.count ≤ t.offset) ⊎ (end_of t ≤ s.offset)) is (can.fits.apart place used_k) in
              subst (λ (t : Slot). (at + n ≤ t.offset) ⊎ (end_of t ≤ at)) (sym now)
              (elim both [ inl l ↦ inr (omega (arith, l, low)) | inr r ↦ inl (omega (arith, r, high)) ]))
          | inr other ↦
              (let stays = kept_at j other in
              let both =
              subst (λ (t : Slot). (end_of (slot_at st.slots j) ≤ t.offset) ⊎ (end_of t ≤ (slot_at st.slots j).offset)) is
              (sound.apart j place other (ap is_used (sym stays) ∙ used) used_k).blocks in
              subst (λ (t : Slot). (at + n ≤ t.offset) ⊎ (end_of t ≤ at)) (sym stays)
              (elim both [ inl l ↦ inr (omega (arith, l, low)) | inr r ↦ inl (omega (arith, r, high)) ]))
        ];
      }

  module _ (us : Units) (long : length us ≡ s.count) where
    module _ (unit : List ℕ) (is : IsSlotUnit unit s) (file from : Units) (stands : RepresentsStore st file from) (holds : HasUnits from s.offset us) where
      -- once the slot is written
      pub set_stands : RepresentsSlot st place s us file (with_units (2 + place) (unit ∷ []) from)
      set_stands =
          let m = made from st stands.keeps can.made in
          let low : 2 + place < 256 * st.pages = omega (arith, can.below, m.count) in
          let sound = set_sound (length from) (omega (arith, holds.within, long)) m.sound in
          record {
            keeps = from_made (with_units (2 + place) (unit ∷ []) from) after (set_made from st m place unit s can.below is sound);
            others =
                λ j i differs used at to. put_elsewhere (2 + place) unit from i (omega (arith, low, at, (m.sound.placed j used).behind))
                ∙ stands.blocks j i used at to;
            holds = record {
              within = omega (arith, holds.within, put_length (2 + place) unit from (omega (arith, low, m.lawful.inside)));
              each = λ i lt. put_elsewhere (2 + place) unit from (s.offset + i) (omega (arith, low, can.behind)) ∙ holds.each i lt;
            };
          }

      -- a crash while it is written
      pub while_set : (image : Units) → Torn (2 + place) (unit ∷ []) from image → RepresentsStore st file image ⊎ RepresentsSlot st place s us file image
      while_set image torn =
          let m = made from st stands.keeps can.made in
          elim (torn_one (2 + place) unit from image (omega (arith, can.below, m.count, m.lawful.inside)) torn) [
            | inl same ↦ inl (subst (RepresentsStore st file) (sym same) stands)
            | inr new ↦ inr (subst (RepresentsSlot st place s us file) (sym new) set_stands)
          ]

    -- a range that is clear of the new value's slots changes
    module _ (file from image : Units) (was : RepresentsSlot st place s us file from) (at n : ℕ) (clear : IsClear after at n)
        (same : SameOutside at n from image) where
      used_new : is_used s ≡ true
      used_new = (let low : s.offset ≢ 0 = omega (arith, can.made, can.behind) in grind (arith, nat_tests))

      beside : (j : ℕ) → is_used (slot_at after.slots j) ≡ true → (i : ℕ) → (slot_at after.slots j).offset ≤ i → i < end_of (slot_at after.slots j)
          → unit_at image i ≡ unit_at from i
      beside j used i low high = elim (clear.apart j used) [ inl l ↦ same.above i (omega (arith, l, low)) | inr r ↦ same.below i (omega (arith, r, high)) ]

      pub set_aside : RepresentsSlot st place s us file image
      set_aside =
          let m = made from after was.keeps can.made in
          record {
            keeps = from_made image after (outside_made from after m at n image clear same);
            others = λ j i differs used low high.
                let stays = kept_at j differs in
                beside j (ap is_used stays ∙ used) i (subst (λ (t : Slot). t.offset ≤ i) (sym stays) low)
                (subst (λ (t : Slot). i < end_of t) (sym stays) high) ∙ was.others j i differs used low high;
            holds = record {
              within = omega (arith, was.holds.within, same.no_shorter);
              each = λ i lt.
                  beside place (ap is_used set_at ∙ used_new) (s.offset + i) (subst (λ (t : Slot). t.offset ≤ s.offset + i) (sym set_at) (omega arith))
                  (subst (λ (t : Slot). s.offset + i < end_of t) (sym set_at) (omega (arith, lt, long)))
                  ∙ was.holds.each i lt;
            };
          }

    -- two images with the slot represent each other
    pub set_alike : (file a b : Units) → RepresentsSlot st place s us file a → RepresentsSlot st place s us file b → RepresentsStore after a b
    set_alike file a b in_a in_b =
        record {
          keeps = in_b.keeps;
          blocks = λ j i used from to. elim (cases_eq j place) [
            | inl here ↦
                (let now : slot_at after.slots j ≡ s = ap (slot_at after.slots) here ∙ set_at in
                let low : s.offset ≤ i = subst (λ (t : Slot). t.offset ≤ i) now from in
                let high : i < end_of s = subst (λ (t : Slot). i < end_of t) now to in
                let lt : i - s.offset < length us = omega arith in
                let at : i ≡ s.offset + (i - s.offset) = omega arith in
                ap (unit_at b) at ∙ in_b.holds.each (i - s.offset) lt ∙ sym (in_a.holds.each (i - s.offset) lt) ∙ sym (ap (unit_at a) at))
            | inr other ↦
                (let stays = kept_at j other in
                let u = ap is_used (sym stays) ∙ used in
                let low = subst (λ (t : Slot). t.offset ≤ i) stays from in
                let high = subst (λ (t : Slot). i < end_of t) stays to in
                in_b.others j i other u low high ∙ sym (in_a.others j i other u low high))
          ];
        }
