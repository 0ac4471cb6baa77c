-- Which of two versions is newer.
use Rattle.std.specs.Prelude.{ℕ, List, ◌≢◌}
use Rattle.std.specs.declared.cmp.Ordering.{Ordering}
use Rattle.std.specs.declared.cmp.Ordering.TheVariants.{Greater}
use Rattle.std.specs.Ordering.{nat_cmp}
use Rattle.std.specs.Cmp.Lexicographic.{slice_cmp}
use Rattle.rpm_version.specs.Segment.{Segment, Tilde, End, Caret, Letters, Digits, segments}

-- the order of the kinds of segments, the oldest first
abbrev pub rank : Segment → ℕ
rank Tilde = 0
rank End = 1
rank Caret = 2
rank (Letters text) = 3
rank (Digits number) = 4

-- letters byte by byte, digits as numbers, and else by rank
unfoldable pub segment_order : Segment → Segment → Ordering
segment_order (Letters a) (Letters b) = slice_cmp nat_cmp a b
segment_order (Digits a) (Digits b) = nat_cmp a b
segment_order a b = nat_cmp (rank a) (rank b)

-- the first place at which the segments differ decides
unfoldable pub version_order : List ℕ → List ℕ → Ordering
version_order a b = slice_cmp segment_order (segments a) (segments b)

-- version a is no newer than b
abbrev pub IsUpTo : List ℕ → List ℕ → Type 0
IsUpTo a b = version_order a b ≢ Greater
