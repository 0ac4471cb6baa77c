-- The texts that a glob matches.
use Rattle.std.specs.Prelude.{ℕ, suc, zero, ◌+◌, ◌-◌, List, [], ◌∷◌, take, drop, Bool, true, false, not, ◌&&◌, ◌||◌}
use Rattle.std.specs.Prelude.{◌==◌, nat_le, if◌then◌else◌, Option, Some, None}
use Rattle.std.specs.List.{position}
use Rattle.std.specs.Option.{option_map}

-- ---- what one piece of a glob stands for

-- any bytes, one byte of any kind, one byte, or one byte of a set, or else of all others
pub data Piece : Type 0 where
  Star Question : Piece
  Byte : ℕ → Piece
  Set : Bool → List ℕ → Piece

-- a byte is one of these members: a-b is a range, and a dash at either end is itself
abbrev pub is_member : ℕ → List ℕ → Bool
is_member b [] = false
is_member b (x ∷ []) = b == x
is_member b (x ∷ dash ∷ []) = b == x || b == dash
is_member b (x ∷ dash ∷ y ∷ members) =
    if dash == 45 then (nat_le x b && nat_le b y) || is_member b members
    else b == x || is_member b (dash ∷ y ∷ members)

-- a piece stands for this one byte
abbrev pub takes_byte : Piece → ℕ → Bool
takes_byte Star b = false
takes_byte Question b = true
takes_byte (Byte x) b = b == x
takes_byte (Set is_turned members) b = if is_turned then not (is_member b members) else is_member b members

-- the pieces stand for the text, piece by piece
abbrev pub stands_for : List Piece → List ℕ → Bool
stands_for [] [] = true
stands_for [] (b ∷ text) = false
stands_for (Star ∷ pieces) [] = stands_for pieces []
stands_for (Star ∷ pieces) (b ∷ text) = stands_for pieces (b ∷ text) || stands_for (Star ∷ pieces) text
stands_for (piece ∷ pieces) [] = false
stands_for (piece ∷ pieces) (b ∷ text) = takes_byte piece b && stands_for pieces text

-- ---- how a glob is written

-- After a [ stands a ! (33) or a ^ (94), which turns the set round.
abbrev pub is_turned : List ℕ → Bool
is_turned [] = false
is_turned (b ∷ rest) = b == 33 || b == 94

-- How many members a set has: it ends at the first ] (93) that isn't its first member.
abbrev pub member_count : List ℕ → Option ℕ
member_count [] = None
member_count (first ∷ rest) = option_map (λ n. n + 1) (position (λ b. b == 93) rest)

-- The set that a [ (91) begins, and how many bytes write it with the [; without an end the [ is itself.
abbrev pub bracketed_set : List ℕ → Piece × ℕ
bracketed_set rest =
    let members = if is_turned rest then drop 1 rest else rest in
    elim (member_count members) [
      | Some n ↦ (Set (is_turned rest) (take n members), n + (if is_turned rest then 3 else 2))
      | None ↦ (Byte 91, 1)
    ]

-- The piece that a byte begins, given what follows it, and how many bytes write it: * (42) and ? (63) stand for others,
-- a byte after a \ (92) for itself, and so does a \ at the end.
unfoldable pub piece_at : ℕ → List ℕ → Piece × ℕ
piece_at b rest =
    if b == 42 then (Star, 1)
    else if b == 63 then (Question, 1)
    else if b == 92 then elim rest [ [] ↦ (Byte 92, 1) | next ∷ others ↦ (Byte next, 2) ]
    else if b == 91 then bracketed_set rest
    else (Byte b, 1)

-- The pieces of a glob, after so many bytes.
unfoldable pub pieces_behind : ℕ → List ℕ → List Piece
pieces_behind n [] = []
pieces_behind (suc n) (b ∷ glob) = pieces_behind n glob
pieces_behind zero (b ∷ glob) = (piece_at b glob).0 ∷ pieces_behind ((piece_at b glob).1 - 1) glob

-- A glob matches a text when its pieces stand for the whole of it.
unfoldable pub glob : List ℕ → List ℕ → Bool
glob pattern text = stands_for (pieces_behind 0 pattern) text
