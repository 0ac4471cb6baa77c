-- A blob that is written is read back.
use Rattle.std.proofs.Common.{◌≡◌, ℕ, suc, None, if◌then◌else◌, ◌+◌, ◌-◌, ◌*◌, ◌/◌, ◌^◌, ◌<◌, ◌≤◌, List, ◌∷◌, ◌++◌, length, take, drop, true, Some, refl, sym, ap, ◌∙◌, arith, append_assoc, length-append, length-drop, codes}
use Rattle.rpm_pkgdb.proofs.Vocabulary.{adler, begins_with_word, blank, blob_in, blocks_at, blocks_for, bytes_of, bytes_of-cut_up, bytes_of_word, cut_up, Frame}
use Rattle.rpm_pkgdb.proofs.Vocabulary.{frame_of, framed_blob, from_le_bytes, head_of, HasUnits, is_framed, is_head, is_tail, length-cut_up, padding, Slot, summed_bytes}
use Rattle.rpm_pkgdb.proofs.Vocabulary.{tail, tail_of, unit_at, Units, units_of, w32}
use Rattle.std.proofs.lemmas.Nat.{from_le_bytes-to_le_bytes_4}
use Rattle.std.proofs.lemmas.List.{take-append-le, take_all, drop-append-le, drop_all, length-replicate, length-take, same_lists, get_or-take, get_or-drop, get_or_default}
use Rattle.std.proofs.lemmas.Bool.Decides.{nat_tests}
use Rattle.rpm_outside.specs.Words.{word}

pub length-head_of : (n g size : ℕ) → length (head_of n g size) ≡ 16
unfolding head_of bytes_of_word
length-head_of n g size = refl

pub length-tail_of : (sum size : ℕ) → length (tail_of sum size) ≡ 12
unfolding tail_of bytes_of_word
length-tail_of sum size = refl

module _ (n g size : ℕ) (fits_n : n < 2 ^ 32) (fits_g : g < 2 ^ 32) (fits_size : size < 2 ^ 32) where
  pub head-magic : begins_with_word (codes "BlbS") (head_of n g size) ≡ true
  unfolding head_of word bytes_of_word
  head-magic = refl

  pub head-number : word 1 (head_of n g size) ≡ n
  unfolding head_of word bytes_of_word
  head-number = from_le_bytes-to_le_bytes_4 n fits_n

  pub head-size : word 3 (head_of n g size) ≡ size
  unfolding head_of word bytes_of_word
  head-size = from_le_bytes-to_le_bytes_4 size fits_size

module _ (sum size : ℕ) (fits_size : size < 2 ^ 32) where
  tail-size : word 1 (tail_of sum size) ≡ size
  unfolding tail_of word bytes_of_word
  tail-size = from_le_bytes-to_le_bytes_4 size fits_size

  tail-magic : word 2 (tail_of sum size) ≡ from_le_bytes w32 (codes "BlbE")
  unfolding tail_of word bytes_of_word
  tail-magic = refl

-- ---- units that stand in a file

pub held_part : (file : Units) (at : ℕ) (us : Units) (j : ℕ) → HasUnits file at us → j ≤ length us → take (length us - j) (drop (at + j) file) ≡ drop j us
held_part file at us j holds le =
    let a : length (take (length us - j) (drop (at + j) file)) ≡ length us - j =
    omega (arith, holds.within, length-take (length us - j) (drop (at + j) file), length-drop (at + j) file) in
    same_lists (take (length us - j) (drop (at + j) file)) (drop j us) (omega (arith, a, length-drop j us)) (λ k d below.
    let lt : k < length us - j = omega (arith, a, below) in
    let in_us : j + k < length us = omega arith in
    get_or_default (take (length us - j) (drop (at + j) file)) k d blank below
    ∙ get_or-take (length us - j) (drop (at + j) file) k blank lt
    ∙ get_or-drop (at + j) file k blank
    ∙ ap (unit_at file) (omega arith)
    ∙ holds.each (j + k) in_us
    ∙ sym (get_or-drop j us k blank)
    ∙ get_or_default (drop j us) k blank d (omega (arith, length-drop j us)))

-- ---- the bytes of a blob

module _ (n g : ℕ) (b : List ℕ) where
  abbrev pub size : ℕ
  size = length b

  abbrev pub all : List ℕ
  all = framed_blob n g b

  abbrev pub rest : List ℕ
  rest = (b ++ padding size) ++ tail_of (adler (summed_bytes n g b)) size

  pub length-rest : length rest ≡ 16 * (blocks_for size - 1)
  length-rest = omega (
    arith,
    length-append (b ++ padding size) (tail_of (adler (summed_bytes n g b)) size),
    length-append b (padding size),
    length-replicate {A = ℕ} (16 * blocks_for size - (28 + size)) 0,
    length-tail_of (adler (summed_bytes n g b)) size,
  )

  parts : all ≡ head_of n g size ++ rest
  parts = append_assoc (head_of n g size) (b ++ padding size) (tail_of (adler (summed_bytes n g b)) size)

  pub length-framed : length all ≡ 16 * blocks_for size
  length-framed = ap length parts ∙ omega (arith, length-append (head_of n g size) rest, length-head_of n g size, length-rest)

  pub count-framed : length (units_of all) ≡ blocks_for size
  count-framed = length-cut_up (length all / 16) all ∙ omega (arith, length-framed)

  first_unit : take 16 all ≡ head_of n g size
  first_unit =
      ap (take 16) parts ∙ take-append-le 16 (head_of n g size) rest (omega (arith, length-head_of n g size))
      ∙ take_all 16 (head_of n g size) (omega (arith, length-head_of n g size))

  other_bytes : drop 16 all ≡ rest
  other_bytes =
      ap (drop 16) parts ∙ drop-append-le 16 (head_of n g size) rest (omega (arith, length-head_of n g size))
      ∙ ap (λ (bs : List ℕ). bs ++ rest) (drop_all 16 (head_of n g size) (omega (arith, length-head_of n g size)))

  cut : units_of all ≡ head_of n g size ∷ cut_up (blocks_for size - 1) rest
  cut =
      let e : length all / 16 ≡ suc (blocks_for size - 1) = omega (arith, length-framed) in
      ap (λ (k : ℕ). cut_up k all) e ∙ ap (λ (u : List ℕ). u ∷ cut_up (blocks_for size - 1) (drop 16 all)) first_unit
      ∙ ap (λ (bs : List ℕ). head_of n g size ∷ cut_up (blocks_for size - 1) bs) other_bytes

  the_tail : tail rest ≡ tail_of (adler (summed_bytes n g b)) size
  the_tail =
      let t = tail_of (adler (summed_bytes n g b)) size in
      let e : length rest - 12 ≡ length (b ++ padding size) = omega
      (arith, length-append (b ++ padding size) t, length-tail_of (adler (summed_bytes n g b)) size) in
      ap (λ (k : ℕ). drop k rest) e
      ∙ drop-append-le (length (b ++ padding size)) (b ++ padding size) t (omega arith)
      ∙ ap (λ (bs : List ℕ). bs ++ t) (drop_all (length (b ++ padding size)) (b ++ padding size) (omega arith))

  the_blob : take size rest ≡ b
  the_blob =
      take-append-le size (b ++ padding size) (tail_of (adler (summed_bytes n g b)) size) (omega (arith, length-append b (padding size)))
      ∙ take-append-le size b (padding size) (omega arith) ∙ take_all size b (omega arith)

  abbrev pub frame : Frame
  frame = record { head = head_of n g size; rest = rest }

  module _ (fits_n : n < 2 ^ 32) (fits_g : g < 2 ^ 32) (few : size ≤ 68157432) where
    right_head : is_head n (blocks_for size) (head_of n g size) ≡ true
    unfolding is_head
    right_head =
        let m = head-magic n g size fits_n fits_g (omega arith) in
        let i = head-number n g size fits_n fits_g (omega arith) in
        let s = head-size n g size fits_n fits_g (omega arith) in
        grind (arith, nat_tests)

    right_tail : is_tail size rest ≡ true
    unfolding is_tail
    right_tail =
        let t = the_tail in
        let i : word 1 (tail rest) ≡ size = ap (word 1) t ∙ tail-size (adler (summed_bytes n g b)) size (omega arith) in
        let m : word 2 (tail rest) ≡ from_le_bytes w32 (codes "BlbE") = ap (word 2) t ∙ tail-magic (adler (summed_bytes n g b)) size (omega arith) in
        grind (arith, nat_tests)

    framed_right : is_framed n (blocks_for size) frame ≡ true
    framed_right =
        let h = right_head in
        let s = head-size n g size fits_n fits_g (omega arith) in
        let t : is_tail (word 3 (head_of n g size)) rest ≡ true = ap (λ (k : ℕ). is_tail k rest) s ∙ right_tail in
        rw (h, t) refl

    -- the blob of a frame
    pub blob_is : blob_in frame ≡ b
    blob_is = ap (λ (k : ℕ). take k rest) (head-size n g size fits_n fits_g (omega arith)) ∙ the_blob

    -- where the units of a blob stand, it is read
    pub framed_frame : (file : Units) (s : Slot) → s.count ≡ blocks_for size → HasUnits file s.offset (units_of all) → frame_of n s file ≡ Some frame
    framed_frame file s count holds =
        let us = units_of all in
        let long : length us ≡ blocks_for size = count-framed in
        let head : unit_at file s.offset ≡ head_of n g size =
        ap (unit_at file) (omega arith) ∙ holds.each 0 (omega arith) ∙ ap (λ (u : Units). unit_at u 0) cut in
        let others : take (s.count - 1) (drop (s.offset + 1) file) ≡ cut_up (blocks_for size - 1) rest =
        ap (λ (k : ℕ). take k (drop (s.offset + 1) file)) (omega arith) ∙ held_part file s.offset us 1 holds (omega arith) ∙ ap (drop 1) cut in
        let bytes : bytes_of (take (s.count - 1) (drop (s.offset + 1) file)) ≡ rest =
        ap bytes_of others ∙ bytes_of-cut_up (blocks_for size - 1) rest length-rest in
        let f : blocks_at s file ≡ frame = rw (head, bytes) refl in
        let right : is_framed n s.count frame ≡ true = ap (λ (k : ℕ). is_framed n k frame) count ∙ framed_right in
        ap (λ (x : Frame). if is_framed n s.count x then Some x else None) f ∙ rw right refl
