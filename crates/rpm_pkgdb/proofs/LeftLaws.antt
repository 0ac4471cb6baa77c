-- The packages' blocks in what a crash leaves.
use Rattle.std.proofs.Common.{◌≡◌, inl, inr, ℕ, ◌≤◌, List, length, take, drop, true, Option, Some, None, refl, ap, ◌∙◌}
use Rattle.rpm_pkgdb.proofs.Vocabulary.{After, AllStay, Before, StoreBeforeOrAfter, blobs, blocks_with, CanGrow, CanMove, CanPut, framed_blob, has_number, HasSlot}
use Rattle.rpm_pkgdb.proofs.Vocabulary.{in_file, KeepsStore, moved_slot, next_field, Numbered, option_map, Slot, slot_at, slot_for, slot_with, RepresentsStore, RepresentsBlobs}
use Rattle.rpm_pkgdb.proofs.Vocabulary.{RepresentsPut, StaysBut, Store, Target, Units, units_of, WhileMoved, WhilePut, with_put, with_free, with_next}
use Rattle.rpm_pkgdb.proofs.Vocabulary.{with_page, with_slot}
use Rattle.rpm_pkgdb.proofs.BlobMaps.{same_blobs}
use Rattle.rpm_pkgdb.proofs.ClearLaws.{set_here}
use Rattle.rpm_pkgdb.proofs.ErasesTo.{unfolded}
use Rattle.rpm_pkgdb.proofs.Facts.{has_it_from}
use Rattle.rpm_pkgdb.proofs.GrowLaws.{grown_map}
use Rattle.rpm_pkgdb.proofs.Made.{made}
use Rattle.rpm_pkgdb.proofs.Moves.{moved_map}
use Rattle.rpm_pkgdb.proofs.Places.{freed_absent, with_at}
use Rattle.rpm_pkgdb.proofs.PutEnds.{whole_part}
use Rattle.rpm_pkgdb.proofs.PutsLaws.{us_count}
use Rattle.rpm_pkgdb.proofs.PutsTo.{used_new}
use Rattle.rpm_pkgdb.proofs.StayLaws.{same_stay, freed_stay, grown_stay, moved_stay, put_stay}

-- ---- where no package changes

-- an image that stands as the file does
stands_stay : (st : Store) (file image : Units) → 1 ≤ st.pages → KeepsStore file st → RepresentsStore st file image → AllStay st file st image
stands_stay st file image some keeps stands =
    same_stay file image st.pages st st refl (made file st keeps some).sound (made image st stands.keeps some).sound stands.blocks

pub stands_still : (st : Store) (file image : Units) → 1 ≤ st.pages → KeepsStore file st → RepresentsStore st file image → RepresentsBlobs st file image
stands_still st file image some keeps stands =
    let here = made file st keeps some in
    let there = made image st stands.keeps some in
    record {
      stands = record {
        value = in_file st;
        undamaged = stands.keeps;
        generation_is = refl;
        field_is = refl;
        blobs_are = unfolded image st ∙ same_blobs file image st.pages st st refl here.sound there.sound stands.blocks;
      };
      stay = stands_stay st file image some keeps stands;
    }

-- after changes that left the packages as they were
pub still_then : (v u : Store) (F0 F1 image : Units) → u.generation ≡ v.generation → u.field ≡ v.field → blobs F1 u ≡ blobs F0 v → AllStay v F0 u F1
    → RepresentsBlobs u F1 image → RepresentsBlobs v F0 image
still_then v u F0 F1 image generation field same stay still =
    let s = still.stands in
    record {
      stands = record {
        value = s.value;
        undamaged = s.undamaged;
        generation_is = s.generation_is ∙ generation;
        field_is = s.field_is ∙ field;
        blobs_are = s.blobs_are ∙ same;
      };
      stay = λ n. still.stay n ∙ stay n;
    }

-- while blocks are moved
pub moves_to : (st : Store) (place : ℕ) (old : Slot) (to : ℕ) → CanMove st place old to → (file : Units) → KeepsStore file st → (image : Units)
    → WhileMoved st place old to file image → RepresentsBlobs st file image
moves_to st place old to can file keeps image (inl before) = stands_still st file image can.slot.made keeps before
moves_to st place old to can file keeps image (inr after) = record {
  stands = record {
    value = in_file (with_slot place (moved_slot old to) st);
    undamaged = after.keeps;
    generation_is = refl;
    field_is = refl;
    blobs_are = unfolded image (with_slot place (moved_slot old to) st) ∙ moved_map st place old to can file keeps image after;
  };
  stay = moved_stay st place old to can file keeps image after;
}

-- while a page is added
pub grows_to : (st : Store) → CanGrow st → (file : Units) → KeepsStore file st → (image : Units) → StoreBeforeOrAfter st (with_page st) file image
    → RepresentsBlobs st file image
grows_to st can file keeps image (inl before) = stands_still st file image can.made keeps before
grows_to st can file keeps image (inr after) = record {
  stands = record {
    value = in_file (with_page st);
    undamaged = after.keeps;
    generation_is = refl;
    field_is = refl;
    blobs_are = unfolded image (with_page st) ∙ grown_map st can file image keeps after;
  };
  stay = grown_stay st can file image keeps after;
}

pub still_but : (n : ℕ) (new : Option Units) (st : Store) (file image : Units) → RepresentsBlobs st file image → StaysBut n new st file image
still_but n new st file image still =
    record { said = still.stands.value; undamaged = still.stands.undamaged; others = λ m differs. still.stay m; own = inr (still.stay n) }

-- ---- where one package does

-- while a package is erased
pub erases_but : (st : Store) (k n : ℕ) (s : Slot) → HasSlot st k s → s.number ≡ n → (file : Units) → KeepsStore file st → (image : Units)
    → StoreBeforeOrAfter st (with_free k st) file image → StaysBut n None st file image
erases_but st k n s has number file keeps image (inl before) =
    still_but n None st file image (stands_still st file image has.made keeps before)
erases_but st k n s has number file keeps image (inr after) =
    let held : has_number n (slot_at st.slots k) ≡ true = ap (has_number n) has.is ∙ has_it_from n s has.used number in
    record {
      said = in_file (with_free k st);
      undamaged = after.keeps;
      others = freed_stay st k n s has number file image keeps after;
      own = inl (ap (option_map (λ (t : Slot). take t.count (drop t.offset image)))
          (freed_absent st.pages (length file) st.slots (made file st keeps has.made).sound n k held));
    }

-- while one is put, after changes that left the packages as they were
module _ (v : Store) (F0 : Units) (st : Store) (target : Target) (g : ℕ) (old : Slot) (blob : List ℕ) (can : CanPut st target g old blob) (file : Units)
    (keeps : KeepsStore file st) (stay : AllStay v F0 st file) where
  abbrev us : Units
  us = units_of (framed_blob target.number g blob)

  own : (image : Units) → RepresentsPut st target g blob file image → blocks_with target.number (with_put target st) image ≡ Some us
  own image stands =
      let after = with_put target st in
      let s = slot_for target in
      let there = made image after stands.keeps can.made in
      let here : slot_at after.slots target.place ≡ s =
      set_here st.pages (length file) st.slots (made file st keeps can.made).sound target.place can.target_is.below s in
      let found : slot_with target.number after.slots ≡ Some s =
      with_at st.pages (length image) after.slots there.sound target.number target.place
      (ap (has_number target.number) here ∙ has_it_from target.number s (used_new st target g old blob can) refl) ∙ ap Some here in
      ap (option_map (λ (t : Slot). take t.count (drop t.offset image))) found
      ∙ ap Some (whole_part image target.start s.count us (us_count st target g old blob can) stands.holds)

  pub puts_but : (image : Units) → WhilePut st target g blob file image → StaysBut target.number (Some us) v F0 image
  puts_but image (Before stands) =
      let same = stands_stay st file image can.made keeps stands in
      record {
        said = in_file st;
        undamaged = stands.keeps;
        others = λ m differs. same m ∙ stay m;
        own = inr (same target.number ∙ stay target.number);
      }
  puts_but image (Numbered stands) =
      let numbered = with_next (next_field target) st in
      let here = made file st keeps can.made in
      let there = made image numbered stands.keeps can.made in
      let same = same_stay file image st.pages st numbered refl here.sound there.sound stands.blocks in
      record {
        said = in_file numbered;
        undamaged = stands.keeps;
        others = λ m differs. same m ∙ stay m;
        own = inr (same target.number ∙ stay target.number);
      }
  puts_but image (After stands) = record {
    said = in_file (with_put target st);
    undamaged = stands.keeps;
    others = λ m differs. put_stay st target g old blob can file image keeps stands m differs ∙ stay m;
    own = inl (own image stands);
  }
