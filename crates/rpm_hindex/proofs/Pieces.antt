-- Rows that stand in pieces.
use Rattle.std.proofs.Common.{◌≡◌, ℕ, zero, suc, ◌+◌, ◌-◌, ◌*◌, ◌/◌, ◌%◌, ◌^◌, ◌<◌, ◌≤◌, List, [], ◌∷◌, ◌++◌, reverse, length, get_or, refl, sym, ap, ◌∙◌, arith, inl, inr, length-append, append_assoc}
use Rattle.std.proofs.lemmas.List.{append-nil, get_or_append_left, get_or-append_right, get_or_push, length_push, reverse-append, reverse-reverse}
use Rattle.std.proofs.lemmas.List.Concat.{flat_map-cons}
use Rattle.std.proofs.lemmas.Grind.{flat_map-append}
use Rattle.std.proofs.lemmas.Bool.{cases_lt}
use Rattle.rpm_hindex.proofs.Vocabulary.{ArePieces, flat_map, IsDraft, rows_in_pieces, left_rows, live-append, live_of, no_row, record_units, Row, row_nth}
use Rattle.rpm_hindex.proofs.Drafting.{live_push}

abbrev pub id : List Row → List Row
id rows = rows

-- the rows of one piece more
pub flat_push : (full : List (List Row)) (rows : List Row) → flat_map id (full ++ rows ∷ []) ≡ flat_map id full ++ rows
flat_push full rows = flat_map-append id full (rows ∷ []) ∙ ap (λ (rs : List Row). flat_map id full ++ rs) (append-nil rows)

pub rows_turned : (full : List (List Row)) (last : List Row) → rows_in_pieces (full ++ last ∷ []) [] ≡ rows_in_pieces full last
rows_turned full last = append-nil (flat_map id (full ++ last ∷ [])) ∙ flat_push full last

pub rows_more : (full : List (List Row)) (last : List Row) (row : Row) → rows_in_pieces full (last ++ row ∷ []) ≡ rows_in_pieces full last ++ row ∷ []
rows_more full last row = sym (append_assoc (flat_map id full) last (row ∷ []))

pub pieces_of_one : (rows : List Row) (live : ℕ) → live ≡ live_of rows → live ≤ 2 ^ 60 → length rows ≤ live → ArePieces [] rows live
pieces_of_one rows live units most count = record { each = λ i lt. absurd (omega arith); units = units; most = most; count = count }

pub pieces_turned : (full : List (List Row)) (last : List Row) (live : ℕ) → ArePieces full last live → length last ≡ 16384
    → ArePieces (full ++ last ∷ []) [] live
pieces_turned full last live are long = record {
  each = λ i lt. elim (cases_lt i (length full)) [
    | inl below ↦ ap (λ (rows : List Row). length rows) (get_or_append_left full (last ∷ []) [] i below) ∙ are.each i below
    | inr past ↦ ap (λ (rows : List Row). length rows) (get_or_push full last [] i (omega (arith, length_push full last, lt, past))) ∙ long
  ];
  units = are.units ∙ sym (ap live_of (rows_turned full last));
  most = are.most;
  count = omega (arith, are.count, ap (λ (rows : List Row). length rows) (rows_turned full last));
}

pub pieces_more : (full : List (List Row)) (last : List Row) (live units : ℕ) (row : Row) → ArePieces full last live → units ≡ record_units (length row.key)
    → live + units ≤ 2 ^ 60 → ArePieces full (last ++ row ∷ []) (live + units)
pieces_more full last live units row are size most = record {
  each = are.each;
  units = omega (arith, are.units, size, ap live_of (rows_more full last row), live_push (rows_in_pieces full last) row);
  most = most;
  count = omega (arith, are.count, size, ap (λ (rows : List Row). length rows) (rows_more full last row), length_push (rows_in_pieces full last) row);
}

-- ---- where a row stands

length_full : (full : List (List Row)) → ((i : ℕ) → i < length full → length (get_or full i []) ≡ 16384) → length (flat_map id full)
    ≡ 16384 * length full
length_full [] each = refl
length_full (rows ∷ full) each = omega (
  arith,
  length-append rows (flat_map id full),
  each 0 (omega arith),
  length_full full (λ i lt. each (suc i) (omega (arith, lt))),
)

pub length_rows : (full : List (List Row)) (last : List Row) (live : ℕ) → ArePieces full last live → length (rows_in_pieces full last)
    ≡ 16384 * length full + length last
length_rows full last live are = omega (arith, length-append (flat_map id full) last, length_full full are.each)

nth_flat : (full : List (List Row)) → ((i : ℕ) → i < length full → length (get_or full i []) ≡ 16384) → (p k : ℕ) → p < length full → k < 16384
    → get_or (flat_map id full) (16384 * p + k) no_row ≡ get_or (get_or full p []) k no_row
nth_flat [] each p k lt small = absurd (omega arith)
nth_flat (rows ∷ full) each zero k lt small =
    let at : 16384 * 0 + k ≡ k = omega arith in
    ap (λ (i : ℕ). get_or (rows ++ flat_map id full) i no_row) at
    ∙ get_or_append_left rows (flat_map id full) no_row k (omega (arith, each 0 (omega arith), small))
nth_flat (rows ∷ full) each (suc p) k lt small =
    let at : 16384 * suc p + k - 16384 ≡ 16384 * p + k = omega arith in
    get_or-append_right rows (flat_map id full) 16384 (16384 * suc p + k) no_row (each 0 (omega arith)) (omega arith)
    ∙ ap (λ (i : ℕ). get_or (flat_map id full) i no_row) at
    ∙ nth_flat full (λ i l. each (suc i) (omega (arith, l))) p k (omega (arith, lt)) small

module _ (full : List (List Row)) (last : List Row) (live : ℕ) (are : ArePieces full last live) where
  -- a row in a piece that is full
  pub row_in_full : (i : ℕ) → i / 16384 < length full → row_nth (rows_in_pieces full last) i ≡ row_nth (get_or full (i / 16384) []) (i % 16384)
  row_in_full i lt =
      let at : i ≡ 16384 * (i / 16384) + i % 16384 = omega arith in
      get_or_append_left (flat_map id full) last no_row i (omega (arith, length_full full are.each, lt))
      ∙ ap (λ (j : ℕ). get_or (flat_map id full) j no_row) at
      ∙ nth_flat full are.each (i / 16384) (i % 16384) lt (omega arith)

  -- a row in the last piece
  pub row_in_last : (i : ℕ) → 16384 * length full ≤ i → row_nth (rows_in_pieces full last) i ≡ row_nth last (i - 16384 * length full)
  row_in_last i from =
      get_or-append_right (flat_map id full) last (16384 * length full) i no_row (length_full full are.each) from

-- ---- pieces that are taken from the end

pub left_next : (pieces : List (List Row)) (rows : List Row) → left_rows (pieces ++ rows ∷ []) ≡ rows ++ left_rows pieces
left_next pieces rows = ap (flat_map id) (reverse-append pieces (rows ∷ [])) ∙ flat_map-cons id rows (reverse pieces)

-- the rows of which the records are made, before those that are left
pub record AddsPieces (all : List Row) (buckets : ℕ) (old_bytes bytes : List ℕ) (left : List (List Row)) : Type 0 where
  pub done : List Row
  pub split : done ++ left_rows left ≡ all
  pub long : length bytes ≡ length old_bytes + 16 * live_of done
  pub so_far : IsDraft [] buckets old_bytes → IsDraft done buckets bytes

pub adds_none : (buckets : ℕ) (bytes : List ℕ) (left : List (List Row)) → AddsPieces (left_rows left) buckets bytes bytes left
unfolding live_of
adds_none buckets bytes left = record { done = []; split = refl; long = omega arith; so_far = λ d. d }

module _ (all : List Row) (buckets : ℕ) (old_bytes bytes : List ℕ) (left : List (List Row)) (adds : AddsPieces all buckets old_bytes bytes left) where
  -- how many units the records that are made and those that are left have
  pub adds_size : live_of adds.done + live_of (left_rows left) ≡ live_of all
  adds_size = sym (live-append adds.done (left_rows left)) ∙ ap live_of adds.split

  module _ (before : List (List Row)) (rows : List Row) (is : left ≡ before ++ rows ∷ []) where
    pub rows_fit : live_of adds.done + live_of rows ≤ live_of all
    rows_fit =
        omega (
          arith,
          adds_size,
          ap (λ (ps : List (List Row)). live_of (left_rows ps)) is,
          ap live_of (left_next before rows),
          live-append rows (left_rows before),
        )

    pub adds_next : (new_bytes : List ℕ) → length new_bytes ≡ length bytes + 16 * live_of rows
        → ((so : List Row) → IsDraft so buckets bytes → IsDraft (so ++ rows) buckets new_bytes)
        → AddsPieces all buckets old_bytes new_bytes before
    adds_next new_bytes long more = record {
      done = adds.done ++ rows;
      split = append_assoc adds.done rows (left_rows before)
          ∙ ap (λ (rs : List Row). adds.done ++ rs) (sym (ap left_rows is ∙ left_next before rows)) ∙ adds.split;
      long = omega (arith, long, adds.long, live-append adds.done rows);
      so_far = λ d. more adds.done (adds.so_far d);
    }

  pub adds_all : left ≡ [] → adds.done ≡ all
  adds_all none = sym (append-nil adds.done) ∙ ap (λ (ps : List (List Row)). adds.done ++ left_rows ps) (sym none) ∙ adds.split

-- pieces that were turned round, so that the first is taken first
pub left_turned : (full : List (List Row)) → left_rows (reverse full) ≡ flat_map id full
left_turned full = ap (flat_map id) (reverse-reverse full)
