-- How a glob is gone through.
use Rattle.std.specs.Prelude.{◌≡◌, ◌≢◌, ℕ, ◌<◌, List, [], ◌∷◌, length, true, false}
use Rattle.rpm_select.specs.declared.matching.Move.{Move}
use Rattle.rpm_select.specs.declared.matching.Move.TheVariants.{Done, Starred, Taken, Short, Stuck}
use Rattle.rpm_select.specs.inner.Unclosed.{IsUnclosed}
use Rattle.rpm_select.specs.Glob.{Piece, Star, takes_byte, stands_for}
use Rattle.rpm_select.specs.inner.Pieces.{pieces}

-- what a move says of a glob and a text
abbrev pub MoveIs : List ℕ → List ℕ → Move → Type 0
MoveIs glob text Done = stands_for (pieces glob) text ≡ true
MoveIs glob text (Starred behind) = (pieces glob ≡ Star ∷ pieces behind.now) × (length behind.now < length glob)
MoveIs glob text (Taken behind rest) =
    (piece : Piece) × (b : ℕ) × (piece ≢ Star) × (takes_byte piece b ≡ true) × (pieces glob ≡ piece ∷ pieces behind.now)
    × (text ≡ b ∷ rest.now)
    × (length behind.now < length glob)
MoveIs glob text Short = (piece : Piece) × (piece ≢ Star) × (ps : List Piece) × (pieces glob ≡ piece ∷ ps) × (text ≡ [])
MoveIs glob text Stuck = stands_for (pieces glob) text ≡ false

-- what is left of the glob has no ] among so many bytes at its end either
abbrev pub LeavesUnclosed : ℕ → Move → Type 0
LeavesUnclosed unclosed Done = Unit {0}
LeavesUnclosed unclosed (Starred behind) = IsUnclosed unclosed behind.now
LeavesUnclosed unclosed (Taken behind rest) = IsUnclosed unclosed behind.now
LeavesUnclosed unclosed Short = Unit {0}
LeavesUnclosed unclosed Stuck = Unit {0}
