-- The blobs of images while a blob is put.
use Rattle.std.proofs.Common.{◌≡◌, ◌≢◌, inl, inr, ℕ, ◌^◌, ◌<◌, ◌≤◌, List, length, true, false, Some, refl, sym, ap, ◌∙◌, arith}
use Rattle.std.specs.FinMap as finite
use Rattle.std.proofs.lemmas.Bool.Decides.{nat_tests}
use Rattle.rpm_pkgdb.proofs.Vocabulary.{After, Before, blobs, blocks_for, CanPut, has_number, in_file, is_used, KeepsStore, next_field, Numbered, PutsTo, Slot}
use Rattle.rpm_pkgdb.proofs.Vocabulary.{slot_at, slot_for, RepresentsPut, Store, Target, Units, WhilePut, with_put, with_next}
use Rattle.rpm_pkgdb.proofs.Facts.{cases_Bool, number_facts, has_it_from}
use Rattle.rpm_pkgdb.proofs.BlobMaps.{same_blobs, put_blobs}
use Rattle.rpm_pkgdb.proofs.Made.{made}
use Rattle.rpm_pkgdb.proofs.FramingLaws.{frame, framed_frame, blob_is}
use Rattle.rpm_pkgdb.proofs.ErasesTo.{stands_for, unfolded}

module _ (st : Store) (target : Target) (g : ℕ) (old : Slot) (blob : List ℕ) (can : CanPut st target g old blob) where
  abbrev s : Slot
  s = slot_for target

  abbrev k : ℕ
  k = target.place

  abbrev after : Store
  after = with_put target st

  abbrev mid_value : Store
  mid_value = with_next (next_field target) st

  pub used_new : is_used s ≡ true
  used_new = (let low : target.start ≢ 0 = omega (arith, can.made, can.target_is.start.from_on) in grind (arith, nat_tests))

  -- the slot was free, or had the number
  pub no_other : (m : ℕ) → m ≢ target.number → has_number m (slot_at st.slots k) ≡ false
  no_other m differs = elim (cases_Bool (has_number m (slot_at st.slots k))) [
    | inr fails ↦ fails
    | inl holds ↦
        (let f = number_facts m (slot_at st.slots k) holds in
        absurd (elim (cases_Bool target.is_new) [
          | inl new ↦ (let free_there = (can.target_is.new new).1.unused in let used = f.used in let e : true ≡ false = sym used ∙ free_there in cc)
          | inr not_new ↦ (let h = number_facts target.number (slot_at st.slots k) (can.target_is.held not_new) in differs (sym f.number ∙ h.number))
        ]))
  ]

  -- the blobs once the slot is written
  pub put_map : (file image : Units) → KeepsStore file st → RepresentsPut st target g blob file image
      → blobs image after ≡ finite.insert (blobs file st) target.number (Some blob)
  put_map file image keeps stands =
      let here = made file st keeps can.made in
      let there = made image after stands.keeps can.made in
      let fits_n : target.number < 2 ^ 32 = omega (arith, can.target_is.number.1) in
      let few : length blob ≤ 68157432 = omega (arith, can.target_is.few, can.length_is) in
      let fr = frame target.number g blob in
      put_blobs file image st.pages st after k target.number s can.target_is.below here.sound there.sound refl (has_it_from target.number s used_new refl)
      no_other fr
      (framed_frame target.number g blob fits_n can.fits few image s (ap blocks_for can.length_is) stands.holds) stands.others
      ∙ ap (λ (b : List ℕ). finite.insert (blobs file st) target.number (Some b)) (blob_is target.number g blob fits_n can.fits few)

  pub puts_to : (file image : Units) → KeepsStore file st → WhilePut st target g blob file image → PutsTo st target blob file image
  puts_to file image keeps (Before stands) = inl (stands_for st file image can.made keeps stands)
  puts_to file image keeps (Numbered stands) = inr (inl (
      let here = made file st keeps can.made in
      let there = made image mid_value stands.keeps can.made in
      record {
        value = in_file mid_value;
        undamaged = stands.keeps;
        generation_is = refl;
        field_is = refl;
        blobs_are = unfolded image mid_value ∙ same_blobs file image st.pages st mid_value refl here.sound there.sound stands.blocks;
      }))
  puts_to file image keeps (After stands) = inr (inr (record {
    value = in_file after;
    undamaged = stands.keeps;
    generation_is = refl;
    field_is = refl;
    blobs_are = unfolded image after ∙ put_map file image keeps stands;
  }))
