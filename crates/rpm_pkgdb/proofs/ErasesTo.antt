-- The blobs of images while a number is erased.
use Rattle.std.proofs.Common.{◌≡◌, inl, inr, ℕ, ◌≤◌, true, refl, ap, ◌∙◌}
use Rattle.std.specs.FinMap as finite
use Rattle.rpm_pkgdb.proofs.Vocabulary.{StoreBeforeOrAfter, blobs, ErasesTo, has_number, HasSlot, in_file, KeepsStore, Slot, slot_at, RepresentsStore, Represents}
use Rattle.rpm_pkgdb.proofs.Vocabulary.{Store, Units, with_free}
use Rattle.rpm_pkgdb.proofs.Facts.{has_it_from}
use Rattle.rpm_pkgdb.proofs.BlobMaps.{same_blobs, freed_blobs}
use Rattle.rpm_pkgdb.proofs.Made.{made}

pub unfolded : (image : Units) (st : Store) → blobs image (in_file st) ≡ blobs image st
unfolding blobs
unfolded image st = refl

-- an image that stands as the file does has its blobs
pub stands_for : (st : Store) (file image : Units) → 1 ≤ st.pages → KeepsStore file st → RepresentsStore st file image
    → Represents st.generation st.field (blobs file st) image
stands_for st file image some keeps stands =
    let here = made file st keeps some in
    let there = made image st stands.keeps some in
    record {
      value = in_file st;
      undamaged = stands.keeps;
      generation_is = refl;
      field_is = refl;
      blobs_are = unfolded image st ∙ same_blobs file image st.pages st st refl here.sound there.sound stands.blocks;
    }

module _ (st : Store) (k n : ℕ) (s : Slot) (has : HasSlot st k s) (number : s.number ≡ n) (file : Units) (keeps : KeepsStore file st) where
  has_it : has_number n (slot_at st.slots k) ≡ true
  has_it = ap (has_number n) has.is ∙ has_it_from n s has.used number

  -- the blobs once the slot is free
  pub freed_map : (image : Units) → RepresentsStore (with_free k st) file image → blobs image (with_free k st) ≡ finite.remove (blobs file st) n
  freed_map image stands =
      let here = made file st keeps has.made in
      let there = made image (with_free k st) stands.keeps has.made in
      freed_blobs file image st.pages st (with_free k st) k n has_it has.below here.sound there.sound refl stands.blocks

  pub erases_to : (image : Units) → StoreBeforeOrAfter st (with_free k st) file image → ErasesTo st n file image
  erases_to image (inl before) = inl (stands_for st file image has.made keeps before)
  erases_to image (inr after) = inr (record {
    value = in_file (with_free k st);
    undamaged = after.keeps;
    generation_is = refl;
    field_is = refl;
    blobs_are = unfolded image (with_free k st) ∙ freed_map image after;
  })
