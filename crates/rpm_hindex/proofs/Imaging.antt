-- A draft that has its first unit put in front, as it is read from a file.
use Rattle.std.proofs.Common.{◌≡◌, ℕ, ◌+◌, ◌-◌, ◌*◌, ◌/◌, ◌%◌, ◌^◌, ◌<◌, ◌≤◌, List, ◌++◌, length, take, drop, get_or, true, refl, sym, ap, ◌∙◌, arith, subst, length-append, length-drop}
use Rattle.rpm_hindex.proofs.Vocabulary.{draft_index, first_record, HasDraftUnits, index_in, is_bucket_count, IsDraft}
use Rattle.rpm_hindex.proofs.Vocabulary.{IsDraftOf, IsIndexMade, IsWhole, length-cut_up, length-unit, live_of, places_of, Row, times, unit_at, unit_at-cut_up}
use Rattle.rpm_hindex.proofs.Vocabulary.{unit_of_words, Units, units_of, word, word_0, word_1, word_2, word_3}
use Rattle.std.proofs.lemmas.List.{get_or-take, get_or-drop, drop-drop, drop_at, take_at}
use Rattle.rpm_hindex.proofs.BucketWords.{word_same}
use Rattle.rpm_hindex.proofs.Padding.{padded_then, adds_same}
use Rattle.rpm_hindex.proofs.Wholes.{has_chains}
use Rattle.rpm_hindex.proofs.Extends.{Extends, rows_same, whole_same}
use Rattle.rpm_hindex.proofs.Orders.{few, Few}

-- byte j of unit k
unit_byte : (bytes : List ℕ) (k j : ℕ) → k < length bytes / 16 → j < 16 → get_or (unit_at (units_of bytes) k) j 0 ≡ get_or bytes (16 * k + j) 0
unit_byte bytes k j lt small =
    ap (λ (u : List ℕ). get_or u j 0) (unit_at-cut_up (length bytes / 16) bytes k lt)
    ∙ get_or-take 16 (drop (16 * k) bytes) j 0 small
    ∙ get_or-drop (16 * k) bytes j 0

-- word b of the units after the first
word_of : (bytes : List ℕ) (b : ℕ) → 16 + 4 * b + 4 ≤ length bytes → length bytes % 16 ≡ 0 → word (b % 4) (unit_at (units_of bytes) (1 + b / 4)) ≡ word (4 + b) bytes
word_of bytes b le whole = word_same (b % 4) (4 + b) (unit_at (units_of bytes) (1 + b / 4)) bytes (λ i lt.
    let at : 16 * (1 + b / 4) + (4 * (b % 4) + i) ≡ 4 * (4 + b) + i = omega arith in
    unit_byte bytes (1 + b / 4) (4 * (b % 4) + i) (omega (arith, le, whole)) (omega (arith, lt))
    ∙ ap (λ (k : ℕ). get_or bytes k 0) at)

module _ (rows : List Row) (buckets : ℕ) (bytes second all : List ℕ)
    (count : is_bucket_count buckets ≡ true) (draft : IsDraft rows buckets bytes)
    (long : length bytes ≡ 16 * (1 + buckets / 4 + live_of rows)) (room : first_record buckets + live_of rows ≤ 2 ^ 28)
    (counts : second ≡ unit_of_words (first_record buckets + live_of rows) (length rows) (live_of rows) 0) (few_rows : length rows < 2 ^ 32)
    (is : all ≡ second ++ drop 16 bytes) where
  f : Few buckets
  f = few buckets count

  length_second : length second ≡ 16
  length_second = ap length counts ∙ length-unit _ _ _ _

  length_all : length all ≡ length bytes
  length_all = omega (arith, ap length is, length-append second (drop 16 bytes), length_second, long, length-drop 16 bytes)

  -- what stands behind the first unit
  behind : (p : ℕ) → 16 ≤ p → drop p all ≡ drop p bytes
  behind p from =
      let at : 16 + (p - 16) ≡ p = omega (arith, from) in
      ap (λ (j : ℕ). drop j all) (sym at)
      ∙ sym (drop-drop (p - 16) 16 all)
      ∙ ap (drop (p - 16)) (ap (drop 16) is ∙ drop_at second (drop 16 bytes) 16 length_second)
      ∙ drop-drop (p - 16) 16 bytes
      ∙ ap (λ (j : ℕ). drop j bytes) at

  rest_unit : (k : ℕ) → 1 ≤ k → k < length bytes / 16 → unit_at (units_of all) k ≡ unit_at (units_of bytes) k
  rest_unit k from to =
      unit_at-cut_up (length all / 16) all k (omega (arith, length_all, to))
      ∙ ap (take 16) (behind (16 * k) (omega (arith, from)))
      ∙ sym (unit_at-cut_up (length bytes / 16) bytes k to)

  first_unit : unit_at (units_of all) 0 ≡ second
  first_unit =
      unit_at-cut_up (length all / 16) all 0 (omega (arith, length_all, long))
      ∙ ap (take 16) is
      ∙ take_at second (drop 16 bytes) 16 length_second

  head_word : (b : ℕ) → b < buckets → word (b % 4) (unit_at (units_of all) (1 + b / 4)) ≡ word (4 + b) bytes
  head_word b lt =
      ap (word (b % 4)) (rest_unit (1 + b / 4) (omega arith) (omega (arith, long, f.fours, lt)))
      ∙ word_of bytes b (omega (arith, long, f.fours, lt)) (omega (arith, long))

  module _ (file : Units) (holds : HasDraftUnits (units_of all) file) where
    size : length (units_of all) ≡ 1 + buckets / 4 + live_of rows
    size = omega (arith, length-cut_up (length all / 16) all, length_all, long)

    front_unit : unit_at file 1 ≡ second
    front_unit = holds 0 (omega (arith, size)) ∙ first_unit

    used : word 0 (unit_at file 1) ≡ first_record buckets + live_of rows
    used = ap (word 0) (front_unit ∙ counts) ∙ word_0 _ _ _ _ (omega (arith, room))

    heads_are : (b : ℕ) → b < buckets → word (b % 4) (unit_at file (2 + b / 4)) ≡ word (4 + b) bytes
    heads_are b lt =
        let at : 2 + b / 4 ≡ 1 + (1 + b / 4) = omega arith in
        ap (λ (k : ℕ). word (b % 4) (unit_at file k)) at
        ∙ ap (word (b % 4)) (holds (1 + b / 4) (omega (arith, size, f.fours, lt)))
        ∙ head_word b lt

    extends : Extends (draft_index buckets bytes) (index_in buckets file)
    extends = record {
      buckets = refl;
      used = omega (arith, used, long);
      units = λ i from to.
          let at : i ≡ 1 + (i - 1) = omega (arith, from) in
          ap (unit_at file) at
          ∙ holds (i - 1) (omega (arith, size, long, from, to))
          ∙ rest_unit (i - 1) (omega (arith, from)) (omega (arith, to, from));
    }

    pub made : IsIndexMade rows buckets file
    made =
        let whole = whole_same (draft_index buckets bytes) (index_in buckets file) extends heads_are (length rows) (live_of rows) draft.whole in
        let one : word 1 (unit_at file 1) ≡ length rows = ap (word 1) (front_unit ∙ counts) ∙ word_1 _ _ _ _ few_rows in
        let two : word 2 (unit_at file 1) ≡ live_of rows = ap (word 2) (front_unit ∙ counts) ∙ word_2 _ _ _ _ (omega (arith, room)) in
        let all_rows = rows_same (draft_index buckets bytes) (index_in buckets file) extends heads_are (places_of (draft_index buckets bytes))
        (has_chains (draft_index buckets bytes) draft.whole.chains) in
        record {
          whole = subst (λ (n : ℕ). IsWhole n (word 2 (unit_at file 1)) (index_in buckets file)) (sym one)
              (subst (λ (n : ℕ). IsWhole (length rows) n (index_in buckets file)) (sym two) whole);
          same = λ r. ap (times r) all_rows ∙ draft.same r;
          padded = padded_then (draft_index buckets bytes) (index_in buckets file) draft.padded (adds_same (draft_index buckets bytes) (index_in buckets file)
              extends heads_are (places_of (draft_index buckets bytes)) (has_chains (draft_index buckets bytes) draft.whole.chains));
        }

  pub image_made : IsDraftOf rows buckets all
  image_made = record {
    whole_units = omega (arith, length_all, long);
    long = omega (arith, length_all, long);
    used = ap (word 0) (first_unit ∙ counts) ∙ word_0 _ _ _ _ (omega (arith, room));
    count = ap (word 1) (first_unit ∙ counts) ∙ word_1 _ _ _ _ few_rows;
    live = ap (word 2) (first_unit ∙ counts) ∙ word_2 _ _ _ _ (omega (arith, room));
    last = ap (word 3) (first_unit ∙ counts) ∙ word_3 _ _ _ 0 (omega arith);
    made = made;
  }
