-- The blocks of the packages that a write leaves.
use Rattle.std.proofs.Common.{◌≡◌, ◌≢◌, inl, inr, ℕ, ◌-◌, ◌<◌, ◌≤◌, List, length, take, drop, true, false, Some, refl, sym, ap, ◌∙◌, subst, arith, set}
use Rattle.rpm_pkgdb.proofs.Vocabulary.{AllStay, AreSound, blocks_of, blocks_with, CanGrow, CanMove, CanPut, end_of, free, has_number, HasSlot, HasUnits}
use Rattle.rpm_pkgdb.proofs.Vocabulary.{is_used, IsPlaced, KeepsStore, moved_slot, option_map, OthersStay, SameBlocks, Slot, slot_at, slot_for, slot_with, RepresentsStore}
use Rattle.rpm_pkgdb.proofs.Vocabulary.{RepresentsSlot, RepresentsPut, Store, Target, unit_at, Units, with_put, with_free, with_generation, with_page, with_slot}
use Rattle.std.proofs.lemmas.Bool.{cases_eq}
use Rattle.std.proofs.lemmas.Bool.Decides.{nat_tests}
use Rattle.rpm_pkgdb.proofs.BlobMaps.{same_part, other_number}
use Rattle.rpm_pkgdb.proofs.ClearLaws.{set_other, set_here}
use Rattle.rpm_pkgdb.proofs.Facts.{number_facts, has_it_from}
use Rattle.rpm_pkgdb.proofs.FramingLaws.{held_part}
use Rattle.rpm_pkgdb.proofs.GrowLaws.{at_front, with_free_behind}
use Rattle.rpm_pkgdb.proofs.Made.{made}
use Rattle.rpm_pkgdb.proofs.Moves.{length-us}
use Rattle.rpm_pkgdb.proofs.Pairwise.{used_below}
use Rattle.rpm_pkgdb.proofs.Places.{Search, Here, Nowhere, search_for, with_at, with_set_other}
use Rattle.rpm_pkgdb.proofs.PutsTo.{no_other}

module _ (a b : Units) (pages : ℕ) where
  -- a number whose slot is the same, with the same bytes
  same_with : (st ut : Store) (n : ℕ) → AreSound pages (length a) st.slots → AreSound pages (length b) ut.slots → slot_with n ut.slots ≡ slot_with n st.slots
      → ((k : ℕ) → has_number n (slot_at st.slots k) ≡ true → slot_at ut.slots k ≡ slot_at st.slots k)
      → ((k i : ℕ) → has_number n (slot_at st.slots k) ≡ true → (slot_at st.slots k).offset ≤ i → i < end_of (slot_at st.slots k) → unit_at b i ≡ unit_at a i)
      → blocks_with n ut b ≡ blocks_with n st a
  same_with st ut n sound_a sound_b same kept blocks =
      ap (option_map (λ s. take s.count (drop s.offset b))) same ∙ at_place (search_for n st.slots)
    where
      at_place : Search n st.slots → option_map (λ s. take s.count (drop s.offset b)) (slot_with n st.slots) ≡ blocks_with n st a
      at_place (Here k below has is) =
          let s = slot_at st.slots k in
          let used = (number_facts n s has).used in
          let stays : slot_at ut.slots k ≡ s = kept k has in
          let in_b : IsPlaced pages (length b) s = subst (IsPlaced pages (length b)) stays (sound_b.placed k (ap is_used stays ∙ used)) in
          rw is (ap (λ (us : Units). Some us) (same_part a b s.offset s.count (sound_a.placed k used).inside in_b.inside (λ i from to. blocks k i has from to)))
      at_place (Nowhere none is) = rw is refl

  -- the slots are the same, and so are their blocks
  pub same_stay : (st ut : Store) → ut.slots ≡ st.slots → AreSound pages (length a) st.slots → AreSound pages (length b) ut.slots → SameBlocks st.slots a b
      → AllStay st a ut b
  same_stay st ut same sound_a sound_b blocks n =
      same_with st ut n sound_a sound_b (ap (slot_with n) same) (λ k has. ap (λ (l : List Slot). slot_at l k) same)
      (λ k i has from to. blocks k i (number_facts n (slot_at st.slots k) has).used from to)

  -- one slot is another, and the blocks of the others are the same
  module _ (st ut : Store) (k : ℕ) (s : Slot) (below : k < length st.slots) (is : ut.slots ≡ set st.slots k s)
      (sound_a : AreSound pages (length a) st.slots) (sound_b : AreSound pages (length b) ut.slots) where
    other_with : (m : ℕ) → has_number m s ≡ false → has_number m (slot_at st.slots k) ≡ false
        → ((j i : ℕ) → j ≢ k → is_used (slot_at st.slots j) ≡ true → (slot_at st.slots j).offset ≤ i → i < end_of (slot_at st.slots j)
        → unit_at b i ≡ unit_at a i) → blocks_with m ut b ≡ blocks_with m st a
    other_with m new old blocks =
        same_with st ut m sound_a sound_b (ap (slot_with m) is ∙ with_set_other m st.slots k s new old)
        (λ j has. ap (λ (l : List Slot). slot_at l j) is ∙ set_other pages (length a) st.slots sound_a k below s j (differs j has))
        (λ j i has from to. blocks j i (differs j has) (number_facts m (slot_at st.slots j) has).used from to)
      where
        differs : (j : ℕ) → has_number m (slot_at st.slots j) ≡ true → j ≢ k
        differs j has same =
            (let e : has_number m (slot_at st.slots j) ≡ has_number m (slot_at st.slots k) = ap (λ (i : ℕ). has_number m (slot_at st.slots i)) same in cc)

-- ---- the changes

-- another generation
pub raised_stay : (st : Store) (generation : ℕ) (file image : Units) → 1 ≤ st.pages → KeepsStore file st
    → RepresentsStore (with_generation generation st) file image
    → AllStay st file (with_generation generation st) image
raised_stay st generation file image some keeps stands =
    let after = with_generation generation st in
    same_stay file image st.pages st after refl (made file st keeps some).sound (made image after stands.keeps some).sound stands.blocks

-- a package less
pub freed_stay : (st : Store) (k n : ℕ) (s : Slot) → HasSlot st k s → s.number ≡ n → (file image : Units) → KeepsStore file st
    → RepresentsStore (with_free k st) file image → OthersStay n st file (with_free k st) image
freed_stay st k n s has number file image keeps stands m differs =
    let after = with_free k st in
    let here = made file st keeps has.made in
    let there = made image after stands.keeps has.made in
    other_with file image st.pages st after k free has.below refl here.sound there.sound m refl
    (other_number m n (slot_at st.slots k) (ap (λ (t : Slot). t.number) has.is ∙ number) differs)
    (λ j i other used from to.
    let stays : slot_at after.slots j ≡ slot_at st.slots j = set_other st.pages (length file) st.slots here.sound k has.below free j other in
    stands.blocks j i (ap is_used stays ∙ used) (subst (λ (t : Slot). t.offset ≤ i) (sym stays) from) (subst (λ (t : Slot). i < end_of t) (sym stays) to))

-- a page more
pub grown_stay : (st : Store) → CanGrow st → (file image : Units) → KeepsStore file st → RepresentsStore (with_page st) file image
    → AllStay st file (with_page st) image
grown_stay st can file image keeps stands n =
    let after = with_page st in
    let here = made file st keeps can.made in
    let there = made image after stands.keeps (omega arith) in
    let fewer : AreSound st.pages (length image) after.slots = record {
      placed =
          λ k used. (let p = there.sound.placed k used in record {
            number = p.number;
            few = p.few;
            behind = omega (arith, p.behind);
            some = p.some;
            inside = p.inside;
            below = p.below;
          });
      apart = there.sound.apart;
    } in
    same_with file image st.pages st after n here.sound fewer (with_free_behind n 256 st.slots)
    (λ k has. at_front st.slots k (used_below st.slots k (number_facts n (slot_at st.slots k) has).used))
    (λ k i has low high.
    let u = (number_facts n (slot_at st.slots k) has).used in
    let stays = at_front st.slots k (used_below st.slots k u) in
    stands.blocks k i (ap is_used stays ∙ u) (subst (λ (t : Slot). t.offset ≤ i) (sym stays) low) (subst (λ (t : Slot). i < end_of t) (sym stays) high))

-- a package's blocks moved
module _ (st : Store) (place : ℕ) (old : Slot) (to : ℕ) (can : CanMove st place old to) (file : Units) (keeps : KeepsStore file st) where
  abbrev s : Slot
  s = moved_slot old to

  abbrev us : Units
  us = blocks_of old file

  pub moved_stay : (image : Units) → RepresentsSlot st place s us file image → AllStay st file (with_slot place s st) image
  moved_stay image stands m =
      let after = with_slot place s st in
      let here = made file st keeps can.slot.made in
      let there = made image after stands.keeps can.slot.made in
      let here_s : slot_at after.slots place ≡ s = set_here st.pages (length file) st.slots here.sound place can.slot.below s in
      let low : s.offset ≢ 0 = omega (arith, can.slot.made, can.behind) in
      let used_s : is_used s ≡ true = grind (arith, nat_tests) in
      elim (cases_eq m old.number) [
        | inr other ↦
            other_with file image st.pages st after place s can.slot.below refl here.sound there.sound m (other_number m old.number s refl other)
            (other_number m old.number (slot_at st.slots place) (ap (λ (t : Slot). t.number) can.slot.is) other) stands.others
        | inl same ↦
            (let new_with : slot_with old.number after.slots ≡ Some s =
            with_at st.pages (length image) after.slots there.sound old.number place (ap (has_number old.number) here_s
            ∙ has_it_from old.number s used_s refl) ∙ ap Some here_s in
            let old_with : slot_with old.number st.slots ≡ Some old =
            with_at st.pages (length file) st.slots here.sound old.number place (ap (has_number old.number) can.slot.is
            ∙ has_it_from old.number old can.slot.used refl) ∙ ap Some can.slot.is in
            let same_units : take old.count (drop to image) ≡ take old.count (drop old.offset file) =
            held_whole image to us (length-us st place old to can file keeps) stands.holds in
            ap (λ (i : ℕ). blocks_with i after image) same ∙ rw (new_with, old_with) (ap (λ (u : Units). Some u) same_units)
            ∙ sym (ap (λ (i : ℕ). blocks_with i st file) same))
      ]
    where
      held_whole : (image : Units) (to : ℕ) (us : Units) → length us ≡ old.count → HasUnits image to us → take old.count (drop to image) ≡ us
      held_whole image to us long holds =
          ap (λ (n : ℕ). take n (drop to image)) (sym long)
          ∙ (ap (λ (n : ℕ). take n (drop to image)) (omega arith) ∙ ap (λ (n : ℕ). take (length us - 0) (drop n image)) (omega arith)
          ∙ held_part image to us 0 holds (omega arith))

-- a package put
pub put_stay : (st : Store) (target : Target) (g : ℕ) (old : Slot) (blob : List ℕ) → CanPut st target g old blob → (file image : Units) → KeepsStore file st
    → RepresentsPut st target g blob file image → OthersStay target.number st file (with_put target st) image
put_stay st target g old blob can file image keeps stands m differs =
    let after = with_put target st in
    let here = made file st keeps can.made in
    let there = made image after stands.keeps can.made in
    other_with file image st.pages st after target.place (slot_for target) can.target_is.below refl here.sound there.sound m
    (other_number m target.number (slot_for target) refl differs) (no_other st target g old blob can m differs) stands.others
