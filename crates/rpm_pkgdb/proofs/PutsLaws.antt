-- What a crash leaves while a blob is put.
use Rattle.std.proofs.Common.{◌≡◌, ◌≢◌, inl, inr, ℕ, zero, suc, ◌+◌, ◌^◌, ◌≤◌, List, [], ◌∷◌, length, true, if◌then◌else◌, Option, None, refl, sym, ap, ◌∙◌, subst, arith, set}
use Rattle.rpm_pkgdb.proofs.Vocabulary.{After, AreSound, Before, BlobPut, BlobTorn, blocks_for, CanPut, CanSet, end_of, framed_blob, greatest_number, HasUnits}
use Rattle.rpm_pkgdb.proofs.Vocabulary.{is_used, IsSlotUnit, IsTarget, KeepsStore, length-put, next_field, Numbered, with_units, put_after, put_before, put_inside}
use Rattle.rpm_pkgdb.proofs.Vocabulary.{SameOutside, Slot, slot_at, slot_for, RepresentsStore, RepresentsPut, Store, Target, Torn, unit_at, Units, units_of, WhilePut}
use Rattle.rpm_pkgdb.proofs.Vocabulary.{with_put, with_next}
use Rattle.rpm_pkgdb.proofs.Facts.{cases_Bool, number_facts}
use Rattle.rpm_pkgdb.proofs.Pairwise.{used_below}
use Rattle.rpm_pkgdb.proofs.Made.{made}
use Rattle.rpm_pkgdb.proofs.FramingLaws.{count-framed}
use Rattle.rpm_pkgdb.proofs.SettingLaws.{set_sound, aside_stands, set_stands, while_set, set_aside, old_clear, set_alike}
use Rattle.rpm_pkgdb.proofs.FieldLaws.{field_torn_stands, field_stands, field_keeps, field_longer}

pub number_le : (slots : List Slot) (k : ℕ) → is_used (slot_at slots k) ≡ true → (slot_at slots k).number ≤ greatest_number slots
number_le [] k used = absurd (omega (arith, used_below [] k used))
number_le (s ∷ ss) zero used = let e : (if is_used s then s.number else 0) ≡ s.number = rw used refl in omega arith
number_le (s ∷ ss) (suc k) used = let rest = number_le ss k used in omega arith

nothing_outside : (at : ℕ) (a b : Units) → SameOutside 0 0 a b → SameOutside at 0 a b
nothing_outside at a b same = record {
  below = λ i lt. same.above i (omega arith);
  above = λ i le. same.above i (omega arith);
  no_shorter = same.no_shorter;
  no_longer = omega (arith, same.no_longer);
}

-- ---- the slot of a target

module _ (st : Store) (target : Target) (target_is : IsTarget st target) where
  -- the number is no other slot's
  pub other_number : (units : ℕ) → AreSound st.pages units st.slots → (j : ℕ) → j ≢ target.place → is_used (slot_at st.slots j) ≡ true
      → target.number ≢ (slot_at st.slots j).number
  other_number units sound j differs used same = elim (cases_Bool target.is_new) [
    | inl new ↦ (let n = target_is.new new in omega (arith, n.0, number_le st.slots j used))
    | inr not_new ↦
        (let f = number_facts target.number (slot_at st.slots target.place) (target_is.held not_new) in
        (sound.apart j target.place differs used f.used).numbers (sym same ∙ sym f.number))
  ]

  -- its slot may be set, whatever becomes of the number field
  pub plan_set : 1 ≤ st.pages → (units : ℕ) → AreSound st.pages units st.slots → (next : Option ℕ) → CanSet (with_next next st) target.place (slot_for target)
  plan_set some units sound next = record {
    made = some;
    below = target_is.below;
    number = (target_is.number.0, omega (arith, target_is.number.1));
    others = other_number units sound;
    behind = target_is.start.from_on;
    some = omega arith;
    fits = target_is.start.fits;
  }

  pub target_sound : 1 ≤ st.pages → (units : ℕ) → end_of (slot_for target) ≤ units → AreSound st.pages units st.slots
      → AreSound st.pages units (set st.slots target.place (slot_for target))
  target_sound some units inside sound = set_sound st target.place (slot_for target) (plan_set some units sound None) units inside sound

-- ---- one put

module _ (st : Store) (target : Target) (g : ℕ) (old : Slot) (blob : List ℕ) (can : CanPut st target g old blob) where
  abbrev us : Units
  us = units_of (framed_blob target.number g blob)

  abbrev s : Slot
  s = slot_for target

  abbrev k : ℕ
  k = target.place

  abbrev mid_value : Store
  mid_value = with_next (next_field target) st

  abbrev after : Store
  after = with_put target st

  pub us_count : length us ≡ s.count
  us_count = count-framed target.number g blob ∙ sym (ap blocks_for can.length_is)

  can_set : (file : Units) → KeepsStore file st → (next : Option ℕ) → CanSet (with_next next st) k s
  can_set file keeps = plan_set st target can.target_is can.made (length file) (made file st keeps can.made).sound

  can_after : (file : Units) → KeepsStore file st → CanSet mid_value k s
  can_after file keeps = can_set file keeps (next_field target)

  blob_stands : (file from mid : Units) → RepresentsStore st file from → SameOutside target.start (blocks_for (length blob)) from mid
      → RepresentsStore st file mid
  blob_stands file from mid stands same =
      aside_stands st k s (can_set from stands.keeps None) file from mid stands
      (subst (λ (n : ℕ). SameOutside target.start n from mid) (sym (ap blocks_for can.length_is)) same)

  -- a crash while the blob is written
  pub while_blob : (file from image : Units) → RepresentsStore st file from → BlobTorn target.start (blocks_for (length blob)) (next_field target) from image
      → WhilePut st target g blob file image
  while_blob file from image stands torn =
      elim (field_torn_stands st file torn.mid image (next_field target) can.made (blob_stands file from torn.mid stands torn.blocks) torn.field_torn) [
        | inl before ↦ Before before
        | inr numbered ↦ Numbered numbered
      ]

  -- once it is written
  pub record Stored (file next : Units) : Type 0 where
    pub stands : RepresentsStore mid_value file next
    pub holds : HasUnits next target.start us

  pub stored : (file next : Units) → KeepsStore file st → BlobPut target.start us (next_field target) file next → Stored file next
  stored file next keeps written =
      let here : RepresentsStore st file file = record { keeps = keeps; blocks = λ j i used from to. refl } in
      let mid = written.mid in
      let same : SameOutside target.start (blocks_for (length blob)) file mid = record {
        below = λ i lt. ap (λ (u : Units). unit_at u i) written.blocks ∙ put_before target.start us file i lt;
        above =
            λ i le. ap (λ (u : Units). unit_at u i) written.blocks
            ∙ put_after target.start us file i (omega (arith, le, us_count, ap blocks_for can.length_is));
        no_shorter = omega (arith, ap length written.blocks, length-put target.start us file);
        no_longer = omega (arith, ap length written.blocks, length-put target.start us file, us_count, ap blocks_for can.length_is);
      } in
      let low : 2 ≤ target.start = omega (arith, can.made, can.target_is.start.from_on) in
      record {
        stands = field_stands st file mid next (next_field target) can.made (blob_stands file file mid here same) written.field_put;
        holds = record {
          within = omega (arith, ap length written.blocks, length-put target.start us file, field_longer (next_field target) mid next written.field_put);
          each =
              λ i lt. field_keeps (next_field target) mid next written.field_put (target.start + i) (omega arith)
              ∙ ap (λ (u : Units). unit_at u (target.start + i)) written.blocks ∙ put_inside target.start us file i lt;
        };
      }

  module _ (file : Units) (keeps : KeepsStore file st) (unit : List ℕ) (is : IsSlotUnit unit s) where
    -- once the slot is written
    pub slotted : (from : Units) → Stored file from → RepresentsPut st target g blob file (with_units (2 + k) (unit ∷ []) from)
    slotted from was = set_stands mid_value k s (can_after file keeps) us us_count unit is file from was.stands was.holds

    -- a crash while it is written
    pub while_slotted : (from image : Units) → Stored file from → Torn (2 + k) (unit ∷ []) from image → WhilePut st target g blob file image
    while_slotted from image was torn = elim (while_set mid_value k s (can_after file keeps) us us_count unit is file from was.stands was.holds image torn) [
      | inl before ↦ Numbered before
      | inr after_it ↦ After after_it
    ]

  -- while the old blocks become zeros, and once they are
  pub cleared : (file from image : Units) → KeepsStore file st → RepresentsPut st target g blob file from → SameOutside old.offset old.count from image
      → RepresentsPut st target g blob file image
  cleared file from image keeps was same =
      let base = made file st keeps can.made in
      let m = made from after was.keeps can.made in
      elim (cases_Bool target.is_new) [
        | inl new ↦ set_aside mid_value k s (can_after file keeps) us us_count file from image was (2 ^ 28) 0
            (record { behind = base.lawful.below; apart = λ j used. inr (m.sound.placed j used).below })
            (nothing_outside (2 ^ 28) from image (subst (λ (t : Slot). SameOutside t.offset t.count from image) (can.new new) same))
        | inr not_new ↦
            (let is = can.replaced not_new in
            let used = ap is_used is ∙ (number_facts target.number (slot_at st.slots k) (can.target_is.held not_new)).used in
            set_aside mid_value k s (can_after file keeps) us us_count file from image was old.offset old.count
            (old_clear mid_value k s (can_after file keeps) (length file) base.sound old (sym is) used old.offset old.count (omega arith) (omega arith))
            same)
      ]

  -- two images with the blob represent each other
  pub stand_alike : (file a b : Units) → KeepsStore file st → RepresentsPut st target g blob file a → RepresentsPut st target g blob file b
      → RepresentsStore after a b
  stand_alike file a b keeps = set_alike mid_value k s (can_after file keeps) us us_count file a b

-- the three phases, each after the one before
module _ (st : Store) (target : Target) (g : ℕ) (old : Slot) (blob : List ℕ) (can : CanPut st target g old blob) (unit : List ℕ)
    (is : IsSlotUnit unit (slot_for target)) (F0 F1 F2 : Units) (keeps : KeepsStore F0 st)
    (first : BlobPut target.start (units_of (framed_blob target.number g blob)) (next_field target) F0 F1) where
  pub second_phase : (from image : Units) → from ≡ F1 → Torn (2 + target.place) (unit ∷ []) from image → WhilePut st target g blob F0 image
  second_phase from image same torn =
      while_slotted st target g old blob can F0 keeps unit is from image
      (subst (Stored st target g old blob can F0) (sym same) (stored st target g old blob can F0 F1 keeps first)) torn

  module _ (second : F2 ≡ with_units (2 + target.place) (unit ∷ []) F1) where
    pub third_phase : (from image : Units) → from ≡ F2 → SameOutside old.offset old.count from image → RepresentsPut st target g blob F0 image
    third_phase from image same changed =
        let at : RepresentsPut st target g blob F0 F2 =
        subst (RepresentsPut st target g blob F0) (sym second) (slotted st target g old blob can F0 keeps unit is F1
        (stored st target g old blob can F0 F1 keeps first)) in
        cleared st target g old blob can F0 from image keeps (subst (RepresentsPut st target g blob F0) (sym same) at) changed
