-- Blocks that are moved: the blobs stay.
use Rattle.std.proofs.Common.{◌≡◌, ◌≢◌, inl, inr, ℕ, ◌+◌, ◌-◌, ◌<◌, ◌≤◌, List, [], ◌∷◌, length, take, drop, true, if◌then◌else◌, Option, Some, None, refl, sym, ap, ◌∙◌, subst, arith, set, length-drop}
use Rattle.rpm_pkgdb.proofs.Vocabulary.{blank, blob_in, blobs, blocks_at, blocks_of, CanMove, CanSet, end_of, Frame, frame_of, get-blobs, has_number, HasUnits}
use Rattle.rpm_pkgdb.proofs.Vocabulary.{is_framed, is_used, IsMade, IsSlotUnit, KeepsStore, moved_slot, option_map, with_units, SameOutside, Slot, slot_at, slot_with}
use Rattle.rpm_pkgdb.proofs.Vocabulary.{RepresentsStore, RepresentsSlot, Store, Torn, unit_at, Units, WhileMoved, with_slot}
use Rattle.std.specs.FinMap as finite
use Rattle.std.proofs.lemmas.Cmp.{nat_cmp_total}
use Rattle.std.proofs.lemmas.Bool.{cases_eq}
use Rattle.std.proofs.lemmas.Bool.Decides.{nat_tests}
use Rattle.std.proofs.lemmas.List.{get_or-take, get_or-drop, length-take}
use Rattle.rpm_pkgdb.proofs.Facts.{has_it_from}
use Rattle.rpm_pkgdb.proofs.BlobMaps.{other_get, other_number}
use Rattle.rpm_pkgdb.proofs.Made.{made}
use Rattle.rpm_pkgdb.proofs.Places.{with_at}
use Rattle.rpm_pkgdb.proofs.ClearLaws.{set_here}
use Rattle.rpm_pkgdb.proofs.FramingLaws.{held_part}
use Rattle.rpm_pkgdb.proofs.SettingLaws.{aside_stands, set_stands, while_set, set_aside, old_clear, set_alike}

module _ (st : Store) (place : ℕ) (old : Slot) (to : ℕ) (can : CanMove st place old to) (F0 : Units) (keeps : KeepsStore F0 st) where
  abbrev s : Slot
  s = moved_slot old to

  abbrev us : Units
  us = blocks_of old F0

  base : IsMade F0 st
  base = made F0 st keeps can.slot.made

  used_k : is_used (slot_at st.slots place) ≡ true
  used_k = ap is_used can.slot.is ∙ can.slot.used

  old_inside : end_of old ≤ length F0
  old_inside = subst (λ (t : Slot). end_of t ≤ length F0) can.slot.is (base.sound.placed place used_k).inside

  old_some : 1 ≤ old.count
  old_some = subst (λ (t : Slot). 1 ≤ t.count) can.slot.is (base.sound.placed place used_k).some

  pub move_set : CanSet st place s
  move_set = record {
    made = can.slot.made;
    below = can.slot.below;
    number =
        (let p = base.sound.placed place used_k in let n =
        ap (λ (t : Slot). t.number) can.slot.is in (subst (λ (q : ℕ). 0 < q) n p.number, λ same. p.few (n ∙ same)));
    others = λ j differs used same. (base.sound.apart j place differs used used_k).numbers (sym same ∙ ap (λ (t : Slot). t.number) (sym can.slot.is));
    behind = can.behind;
    some = old_some;
    fits = can.fits;
  }

  pub length-us : length us ≡ s.count
  length-us = omega (arith, length-take old.count (drop old.offset F0), length-drop old.offset F0, old_inside)

  unit_in : (k : ℕ) → k < old.count → unit_at us k ≡ unit_at F0 (old.offset + k)
  unit_in k below = get_or-take old.count (drop old.offset F0) k blank below ∙ get_or-drop old.offset F0 k blank

  held_before : HasUnits F0 old.offset us
  held_before = record { within = omega (arith, length-us, old_inside); each = λ k below. sym (unit_in k (omega (arith, below, length-us))) }

  -- once the blocks are copied
  pub held_after : (F1 : Units) → to + old.count ≤ length F1 → ((i : ℕ) → i < old.count → unit_at F1 (to + i) ≡ unit_at F0 (old.offset + i)) → HasUnits F1 to us
  held_after F1 long copied =
      record {
        within = omega (arith, long, length-us);
        each = λ k below. copied k (omega (arith, below, length-us))
            ∙ sym (unit_in k (omega (arith, below, length-us)));
      }

  -- ---- the phases

  -- while the blocks are copied
  pub while_copied : (from image : Units) → RepresentsStore st F0 from → SameOutside to old.count from image → WhileMoved st place old to F0 image
  while_copied from image stands same = inl (aside_stands st place s move_set F0 from image stands same)

  module _ (unit : List ℕ) (is : IsSlotUnit unit s) (F1 F2 : Units) (outside : SameOutside to old.count F0 F1) (holds : HasUnits F1 to us) where
    copied_stands : RepresentsStore st F0 F1
    copied_stands = aside_stands st place s move_set F0 F0 F1 (record { keeps = keeps; blocks = λ j i used at n. refl }) outside

    -- while the slot is written
    pub while_slot_moved : (from image : Units) → from ≡ F1 → Torn (2 + place) (unit ∷ []) from image → WhileMoved st place old to F0 image
    while_slot_moved from image same torn =
        while_set st place s move_set us length-us unit is F0 from (subst (RepresentsStore st F0) (sym same) copied_stands)
        (subst (λ (f : Units). HasUnits f to us) (sym same) holds) image torn

    -- while its old blocks become zeros
    pub while_old_zeroed : F2 ≡ with_units (2 + place) (unit ∷ []) F1 → (at n : ℕ) → old.offset ≤ at → at + n ≤ end_of old → (from image : Units) → from ≡ F2
        → SameOutside at n from image → RepresentsSlot st place s us F0 image
    while_old_zeroed written at n low high from image same changed =
        let now : RepresentsSlot st place s us F0 F2 =
        subst (RepresentsSlot st place s us F0) (sym written) (set_stands st place s move_set us length-us unit is F0 F1 copied_stands holds) in
        set_aside st place s move_set us length-us F0 from image (subst (RepresentsSlot st place s us F0) (sym same) now) at n
        (old_clear st place s move_set (length F0) base.sound old can.slot.is can.slot.used at n low high) changed

  -- ---- the blobs

  same_moved : (image : Units) → HasUnits image to us → frame_of old.number s image ≡ frame_of old.number old F0
  same_moved image holds =
      let lt : 0 < length us = omega (arith, length-us, old_some) in
      let head : unit_at image to ≡ unit_at F0 old.offset =
      ap (unit_at image) (omega arith) ∙ holds.each 0 lt ∙ sym (held_before.each 0 lt) ∙ ap (unit_at F0) (omega arith) in
      let le : 1 ≤ length us = omega arith in
      let rest : take (old.count - 1) (drop (to + 1) image) ≡ take (old.count - 1) (drop (old.offset + 1) F0) =
      ap (λ (k : ℕ). take k (drop (to + 1) image)) (omega (arith, length-us)) ∙ held_part image to us 1 holds le
      ∙ sym (ap (λ (k : ℕ). take k (drop (old.offset + 1) F0)) (omega (arith, length-us)) ∙ held_part F0 old.offset us 1 held_before le) in
      let f : blocks_at s image ≡ blocks_at old F0 = rw (head, rest) refl in
      ap (λ (x : Frame). if is_framed old.number old.count x then Some x else None) f

  -- the map is the same
  pub moved_map : (image : Units) → RepresentsSlot st place s us F0 image → blobs image (with_slot place s st) ≡ blobs F0 st
  moved_map image stands =
      let there = made image (with_slot place s st) stands.keeps can.slot.made in
      let here_s : slot_at (set st.slots place s) place ≡ s = set_here st.pages (length F0) st.slots base.sound place can.slot.below s in
      let low : s.offset ≢ 0 = omega (arith, can.slot.made, can.behind) in
      let used_s : is_used s ≡ true = grind (arith, nat_tests) in
      finite.same_map nat_cmp_total finite.nat_cmp-IsAntisymmetric (blobs image (with_slot place s st)) (blobs F0 st) (λ m. elim (cases_eq m old.number) [
        | inr other ↦
            other_get F0 image st.pages st (with_slot place s st) place s old.number can.slot.below refl base.sound there.sound m
            (other_number m old.number s refl other)
            (other_number m old.number (slot_at st.slots place) (ap (λ (t : Slot). t.number) can.slot.is) other) stands.others
        | inl same ↦
            (let new_with : slot_with old.number (set st.slots place s) ≡ Some s =
            with_at st.pages (length image) (set st.slots place s) there.sound old.number place (ap (has_number old.number) here_s
            ∙ has_it_from old.number s used_s refl) ∙ ap Some here_s in
            let old_with : slot_with old.number st.slots ≡ Some old =
            with_at st.pages (length F0) st.slots base.sound old.number place (ap (has_number old.number) can.slot.is
            ∙ has_it_from old.number old can.slot.used refl) ∙ ap Some can.slot.is in
            at_number m same image (with_slot place s st) new_with old_with stands.holds)
      ])
    where
      at_number : (m : ℕ) → m ≡ old.number → (image : Units) (ut : Store) → slot_with old.number ut.slots ≡ Some s
          → slot_with old.number st.slots ≡ Some old → HasUnits image to us → finite.get (blobs image ut) m ≡ finite.get (blobs F0 st) m
      at_number m same image ut new_with old_with holds =
          ap (finite.get (blobs image ut)) same ∙ get-blobs image ut old.number
          ∙ ap (option_map (λ t. option_map blob_in (frame_of old.number t image))) new_with
          ∙ ap (λ (f : Option Frame). Some (option_map blob_in f)) (same_moved image holds)
          ∙ sym (ap (finite.get (blobs F0 st)) same ∙ get-blobs F0 st old.number
          ∙ ap (option_map (λ t. option_map blob_in (frame_of old.number t F0))) old_with)

  pub moved_alike : (a b : Units) → RepresentsSlot st place s us F0 a → RepresentsSlot st place s us F0 b → RepresentsStore (with_slot place s st) a b
  moved_alike a b in_a in_b = set_alike st place s move_set us length-us F0 a b in_a in_b
