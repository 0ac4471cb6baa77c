-- What verifying says of a package whose blocks have the bytes from before, and the checksum of one that was written.
use Rattle.std.proofs.Common.{◌≡◌, ℕ, ◌+◌, ◌-◌, ◌^◌, ◌<◌, ◌≤◌, List, ◌++◌, length, take, drop, Bool, true, Option, Some, None, if◌then◌else◌, refl, sym, ap, ◌∙◌, subst, arith, length-append, length-drop, eq-eqb}
use Rattle.std.proofs.lemmas.Nat.{from_le_bytes-to_le_bytes_4}
use Rattle.std.proofs.lemmas.List.{get_or-take, get_or-drop, length-take, take-append-le, take_all, drop-append-le, drop_all}
use Rattle.rpm_outside.specs.Files.{blank, unit_at, Units, units_of}
use Rattle.rpm_outside.specs.Words.{bytes_of_word, word}
use Rattle.rpm_pkgdb.proofs.laws.BlobLaws.{get-blobs-frames}
use Rattle.rpm_pkgdb.specs.Blobs.{blob_in, blocks_at, blocks_for, Frame, frame_of, frames, is_framed, tail}
use Rattle.rpm_pkgdb.specs.Checksums.{adler, checksum_holds, checksums_hold}
use Rattle.rpm_pkgdb.specs.Framing.{framed_blob, head_of, padding, summed_bytes, tail_of}
use Rattle.rpm_pkgdb.specs.Slots.{slot_at, slot_with}
use Rattle.rpm_pkgdb.specs.Stays.{blocks_with}
use Rattle.rpm_pkgdb.specs.Store.{KeepsStore, Store}
use Rattle.rpm_pkgdb.specs.Undamaged.{IsMade}
use Rattle.rpm_pkgdb.specs.inner.Clear.{HasUnits}
use Rattle.rpm_db.proofs.Vocabulary.{option_map, Slot, without_index, verdict, verdict_of}
use Rattle.rpm_pkgdb.proofs.Facts.{number_facts}
use Rattle.rpm_pkgdb.proofs.FramingLaws.{frame, framed_frame, held_part, length-tail_of}
use Rattle.rpm_pkgdb.proofs.Made.{made}
use Rattle.rpm_pkgdb.proofs.Places.{Search, Here, Nowhere, search_for}

-- ---- blocks that have the same bytes

-- a range of a file stands where it does
holds_part : (file : Units) (at n : ℕ) → at + n ≤ length file → HasUnits file at (take n (drop at file))
holds_part file at n inside =
    let long : length (take n (drop at file)) ≡ n = omega (arith, length-take n (drop at file), length-drop at file) in
    record {
      within = omega (arith, long, inside);
      each = λ k below. sym (get_or-take n (drop at file) k blank (omega (arith, long, below)) ∙ get_or-drop at file k blank);
    }

-- the same units in two slots are one frame
frame_held : (n : ℕ) (a b : Units) (s t : Slot) (us : Units) → length us ≡ s.count → t.count ≡ s.count → 0 < s.count → HasUnits a s.offset us
    → HasUnits b t.offset us → frame_of n t b ≡ frame_of n s a
frame_held n a b s t us long count some in_a in_b =
    let lt : 0 < length us = omega (arith, long, some) in
    let le : 1 ≤ length us = omega arith in
    let head : unit_at b t.offset ≡ unit_at a s.offset =
    ap (unit_at b) (omega arith) ∙ in_b.each 0 lt ∙ sym (in_a.each 0 lt) ∙ ap (unit_at a) (omega arith) in
    let rest : take (t.count - 1) (drop (t.offset + 1) b) ≡ take (s.count - 1) (drop (s.offset + 1) a) =
    ap (λ (k : ℕ). take k (drop (t.offset + 1) b)) (omega (arith, long, count)) ∙ held_part b t.offset us 1 in_b le
    ∙ sym (ap (λ (k : ℕ). take k (drop (s.offset + 1) a)) (omega (arith, long)) ∙ held_part a s.offset us 1 in_a le) in
    let f : blocks_at t b ≡ blocks_at s a = rw (head, rest) refl in
    ap (λ (k : ℕ). if is_framed n k (blocks_at t b) then Some (blocks_at t b) else None) count
    ∙ ap (λ (x : Frame). if is_framed n s.count x then Some x else None) f

module _ (a b : Units) (st ut : Store) (keeps_a : KeepsStore a st) (keeps_b : KeepsStore b ut) (made_a : 1 ≤ st.pages) (made_b : 1 ≤ ut.pages) where
  -- a package's frame is the one from before where its blocks have the bytes from before
  frames_stay : (n : ℕ) → blocks_with n ut b ≡ blocks_with n st a → frames b ut n ≡ frames a st n
  frames_stay n same = either (search_for n st.slots) (search_for n ut.slots)
    where
      here : IsMade a st
      here = made a st keeps_a made_a

      there : IsMade b ut
      there = made b ut keeps_b made_b

      either : Search n st.slots → Search n ut.slots → frames b ut n ≡ frames a st n
      either (Nowhere none is) (Nowhere none' is') = rw (is, is') refl
      either (Here k below has is) (Nowhere none' is') = absurd (let both = rw (is, is') at same in cc)
      either (Nowhere none is) (Here j below' has' is') = absurd (let both = rw (is, is') at same in cc)
      either (Here k below has is) (Here j below' has' is') =
          let s = slot_at st.slots k in
          let t = slot_at ut.slots j in
          let in_a = here.sound.placed k (number_facts n s has).used in
          let in_b = there.sound.placed j (number_facts n t has').used in
          let both = rw (is, is') at same in
          let us = take s.count (drop s.offset a) in
          let units : take t.count (drop t.offset b) ≡ us = cc in
          let long : length us ≡ s.count = omega (arith, length-take s.count (drop s.offset a), length-drop s.offset a, in_a.inside) in
          let long' : length (take t.count (drop t.offset b)) ≡ t.count =
          omega (arith, length-take t.count (drop t.offset b), length-drop t.offset b, in_b.inside) in
          let count : t.count ≡ s.count = sym long' ∙ ap length units ∙ long in
          rw (is, is') (ap (λ (f : Option Frame). Some f) (frame_held n a b s t us long count in_a.some (holds_part a s.offset s.count in_a.inside)
          (subst (HasUnits b t.offset) units (holds_part b t.offset t.count in_b.inside))))

  -- and so is what verifying says of it
  pub verdict_stays : (n : ℕ) → blocks_with n ut b ≡ blocks_with n st a → verdict b (without_index ut) n ≡ verdict a (without_index st) n
  verdict_stays n same =
      ap (λ (blob : Option (Option (List ℕ))). verdict_of blob (checksums_hold b ut n)) (get-blobs-frames b ut n)
      ∙ ap (λ (f : Option (Option Frame)). verdict_of (option_map (option_map blob_in) f) (option_map (option_map checksum_holds) f)) (frames_stay n same)
      ∙ sym (ap (λ (blob : Option (Option (List ℕ))). verdict_of blob (checksums_hold a st n)) (get-blobs-frames a st n))

-- ---- the checksum of a blob that was written

adler_fits : (bytes : List ℕ) → adler bytes < 2 ^ 32
unfolding adler
adler_fits bytes = omega arith

tail-sum : (sum size : ℕ) → sum < 2 ^ 32 → word 0 (tail_of sum size) ≡ sum
unfolding tail_of word bytes_of_word
tail-sum sum size fits = from_le_bytes-to_le_bytes_4 sum fits

module _ (n g : ℕ) (b : List ℕ) where
  abbrev front : List ℕ
  front = b ++ padding (length b)

  abbrev last : List ℕ
  last = tail_of (adler (summed_bytes n g b)) (length b)

  long : length (front ++ last) - 12 ≡ length front
  long = omega (arith, length-append front last, length-tail_of (adler (summed_bytes n g b)) (length b))

  the_last : tail (front ++ last) ≡ last
  the_last =
      ap (λ (k : ℕ). drop k (front ++ last)) long ∙ drop-append-le (length front) front last (omega arith)
      ∙ ap (λ (bs : List ℕ). bs ++ last) (drop_all (length front) front (omega arith))

  the_front : take (length (front ++ last) - 12) (front ++ last) ≡ front
  the_front =
      ap (λ (k : ℕ). take k (front ++ last)) long ∙ take-append-le (length front) front last (omega arith) ∙ take_all (length front) front (omega arith)

  checksum_right : checksum_holds (frame n g b) ≡ true
  unfolding checksum_holds
  checksum_right =
      eq-eqb _ _ (ap (word 0) the_last ∙ tail-sum (adler (summed_bytes n g b)) (length b) (adler_fits (summed_bytes n g b))
      ∙ ap adler (ap (λ (bs : List ℕ). head_of n g (length b) ++ bs) (sym the_front)))

module _ (file : Units) (value : Store) (s : Slot) (g : ℕ) (b : List ℕ) (keeps : KeepsStore file value) (some : 1 ≤ value.pages)
    (is : slot_with s.number value.slots ≡ Some s) (count : s.count ≡ blocks_for (length b)) (fits_n : s.number < 2 ^ 32) (fits_g : g < 2 ^ 32)
    (few : length b ≤ 68157432) (stands : take s.count (drop s.offset file) ≡ units_of (framed_blob s.number g b)) where
  inside : s.offset + s.count ≤ length file
  inside = elim (search_for s.number value.slots) [
    | Nowhere none is' ↦ absurd cc
    | Here k below has is' ↦
        (let same : slot_at value.slots k ≡ s = cc in
        subst (λ (t : Slot). t.offset + t.count ≤ length file) same
        ((made file value keeps some).sound.placed k (number_facts s.number (slot_at value.slots k) has).used).inside)
  ]

  written_frame : frames file value s.number ≡ Some (Some (frame s.number g b))
  written_frame =
      rw is (ap (λ (f : Option Frame). Some f) (framed_frame s.number g b fits_n fits_g few file s count (subst (HasUnits file s.offset) stands
      (holds_part file s.offset s.count inside))))

  pub written_sum : (sum : Option Bool) → checksums_hold file value s.number ≡ Some sum → sum ≡ Some true
  written_sum sum said =
      let right = checksum_right s.number g b in
      let here : checksums_hold file value s.number ≡ Some (Some (checksum_holds (frame s.number g b))) =
      ap (option_map (option_map checksum_holds)) written_frame in
      cc
