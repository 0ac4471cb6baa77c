-- The segments of a version.
use Rattle.std.specs.Prelude.{ℕ, List, [], ◌∷◌, ◌++◌, Option, Some, None, Bool, false, ◌&&◌, ◌||◌, ◌==◌, if◌then◌else◌}
use Rattle.std.specs.Prelude.{filter_map}
use Rattle.std.specs.List.{onto_first}
use Rattle.std.specs.Char.{is_ascii_digit, is_ascii_alphabetic}
use Rattle.std.specs.Str.Parse.{digits_value}

-- a tilde, the end of the text, a caret, letters as they stand, or digits as the number that they write
pub data Segment : Type 0 where
  Tilde End Caret : Segment
  Letters : List ℕ → Segment
  Digits : ℕ → Segment

-- whether a byte and the one after it belong to one run: two digits, or two letters
unfoldable pub runs_on : ℕ → List ℕ → Bool
runs_on b [] = false
runs_on b (c ∷ rest) = (is_ascii_digit b && is_ascii_digit c) || (is_ascii_alphabetic b && is_ascii_alphabetic c)

-- the text cut into its longest runs of digits and of letters, and each other byte alone
unfoldable pub runs : List ℕ → List (List ℕ)
runs [] = []
runs (b ∷ rest) = if runs_on b rest then onto_first b (runs rest) else (b ∷ []) ∷ runs rest

-- the segment that a run is, by its first byte: 126 is a tilde, 94 a caret, and other bytes only separate
unfoldable pub segment_of : List ℕ → Option Segment
segment_of [] = None
segment_of (b ∷ rest) =
    if is_ascii_digit b then Some (Digits (digits_value 10 (b ∷ rest)))
    else if is_ascii_alphabetic b then Some (Letters (b ∷ rest))
    else if b == 126 then Some Tilde
    else if b == 94 then Some Caret
    else None

-- the segments of a text, and after them the end
unfoldable pub segments : List ℕ → List Segment
segments text = filter_map segment_of (runs text) ++ End ∷ []
