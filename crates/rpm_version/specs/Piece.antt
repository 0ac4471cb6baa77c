-- A segment as the code finds it in a borrowed text.
use Rattle.std.specs.Prelude.{List, ℕ, []}
use Rattle.std.specs.Str.Parse.{digits_value, AllDigits}
use Rattle.rpm_version.specs.declared.segment.Piece.{Piece}
use Rattle.rpm_version.specs.declared.segment.Piece.TheVariants as piece
use Rattle.rpm_version.specs.Segment.{Segment, Tilde, End, Caret, Letters, Digits, segments}

-- the segment that a piece of the code stands for
abbrev pub segment_at : Piece → Segment
segment_at piece.Tilde = Tilde
segment_at piece.End = End
segment_at piece.Caret = Caret
segment_at (piece.Letters text) = Letters text.now
segment_at (piece.Digits text) = Digits (digits_value 10 text.now)

-- the segments that follow a piece: after the end there are none
abbrev pub segments_behind : Piece → List ℕ → List Segment
segments_behind piece.End rest = []
segments_behind first rest = segments rest

-- a run of digits has nothing else
abbrev pub IsRun : Piece → Type 0
IsRun (piece.Digits text) = AllDigits 10 text.now
IsRun other = Unit {0}
