-- Rows whose keys stand one after the other.
use Rattle.std.specs.Prelude.{◌≡◌, ℕ, ◌+◌, ◌≤◌, ◌<◌, ◌/◌, ◌%◌, ◌^◌, List, [], ◌++◌, take, drop, map, length, reverse, slice_index_or}
use Rattle.std.specs.List.{flat_map}
use Rattle.rpm_hindex.specs.declared.piece.PackedHead.{PackedHead}
use Rattle.rpm_hindex.specs.declared.rows.TheConstants.{FULL}
use Rattle.rpm_hindex.specs.Rows.{Row}
use Rattle.rpm_hindex.specs.Sizes.{live_of}

-- the kind of a row: the upper four bits of the word, as in a record
abbrev pub head_kind : PackedHead → ℕ
head_kind head = head.kind_and_length / 2 ^ 28

-- how many bytes its key has: the word's lower 28 bits
abbrev pub head_length : PackedHead → ℕ
head_length head = head.kind_and_length % 2 ^ 28

abbrev pub row_in : List ℕ → PackedHead → Row
row_in keys head =
    record { kind = head_kind head; key = take (head_length head) (drop head.start keys); number = head.number; place = head.place }

abbrev pub packed_rows : List ℕ → List PackedHead → List Row
packed_rows keys heads = map (row_in keys) heads

abbrev pub no_head : PackedHead
no_head = record { start = 0; kind_and_length = 0; number = 0; place = 0 }

-- each key lies within the bytes
pub record AreKeysPacked (heads : List PackedHead) (keys : List ℕ) (live : ℕ) : Type 0 where
  pub within : (i : ℕ) → i < length heads → (slice_index_or heads i no_head).start
      + head_length (slice_index_or heads i no_head) ≤ length keys
  pub units : live ≡ live_of (packed_rows keys heads)
  pub most : live ≤ 2 ^ 60
  pub count : length heads ≤ live

-- ---- rows in pieces

-- the rows of these pieces, and after them those of the last one
abbrev pub rows_in_pieces : List (List Row) → List Row → List Row
rows_in_pieces full last = flat_map (λ (rows : List Row). rows) full ++ last

-- the rows of pieces of which the last comes first
abbrev pub left_rows : List (List Row) → List Row
left_rows pieces = flat_map (λ (rows : List Row). rows) (reverse pieces)

-- each piece but the last is full
pub record ArePieces (full : List (List Row)) (last : List Row) (live : ℕ) : Type 0 where
  pub each : (i : ℕ) → i < length full → length (slice_index_or full i []) ≡ FULL
  pub units : live ≡ live_of (rows_in_pieces full last)
  pub most : live ≤ 2 ^ 60
  pub count : length (rows_in_pieces full last) ≤ live
