-- What is kept on the way through a glob and a text.
use Rattle.std.proofs.Common.{ℕ, ◌+◌, ◌≤◌, List, length, Option, Some, None, Bor}
use Rattle.rpm_select.proofs.Vocabulary.{IsUnclosed, Piece, pieces}

abbrev pub Back : Type 0
Back = Option (Bor (List ℕ) × Bor (List ℕ))

-- the pieces after the last star, and the text that it was met at or was moved on to
abbrev pub back_in : Back → Option (List Piece × List ℕ)
back_in None = None
back_in (Some b) = Some (pieces b.0.now, b.1.now)

-- how often the last star can still be moved on, at most
abbrev pub tries : ℕ → Back → ℕ
tries text None = text + 1
tries text (Some b) = length b.1.now

abbrev pub IsWithin : ℕ → ℕ → ℕ → Back → Type 0
IsWithin glob text left None = left ≤ text
IsWithin glob text left (Some b) = (length b.0.now ≤ glob) × (left ≤ length b.1.now) × (length b.1.now ≤ text)

abbrev pub IsUnclosedBack : ℕ → Back → Type 0
IsUnclosedBack unclosed None = Unit {0}
IsUnclosedBack unclosed (Some b) = IsUnclosed unclosed b.0.now
