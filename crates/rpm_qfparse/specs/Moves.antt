-- What a format begins with at a place.
use Rattle.std.specs.Prelude.{ℕ, List, [], ◌∷◌, drop, Result, Ok, Err, Bool, true, false, nat_le, ◌==◌, if◌then◌else◌}
use Rattle.std.specs.Option.{ok_or}
use Rattle.rpm_tags.specs.declared.tag.Tag.{Tag}
use Rattle.rpm_qfparse.specs.declared.fault.FormatKind.TheVariants.{MissingClose, BracketExpected, UnexpectedBracket}
use Rattle.rpm_qfparse.specs.declared.fault.FormatKind.TheVariants.{UnexpectedBrace, NestedBracket, QuestionExpected}
use Rattle.rpm_qfparse.specs.declared.fault.FormatKind.TheVariants.{BraceExpected, BarExpected, TooDeep}
use Rattle.rpm_qfparse.specs.declared.moves.Context.{Context}
use Rattle.rpm_qfparse.specs.declared.moves.Context.TheVariants.{Top, Bracket, Branch}
use Rattle.rpm_qfparse.specs.declared.tree.TagPart.{TagPart}
use Rattle.rpm_qfparse.specs.Tag.{Faulty, Reading, ◌>>=◌, begins, split_once, named_tag, tag_part}

-- the context ends, a fault, a literal byte, a tag, a bracket begins, or a condition and its first branch
pub data Move : Type 0 where
  Ends Opens : List ℕ → Move
  Stops : Faulty → Move
  Literal : ℕ → List ℕ → Move
  Shows : TagPart → List ℕ → Move
  Asks : Tag → List ℕ → Move

-- ---- conditions

-- A condition is read where so many conditions are around it: from its percent on, and after its bar (124) its tag up
-- to the first `?` (63), after which a `{` (123) has to follow.
unfoldable pub condition : ℕ → List ℕ → List ℕ → Reading Tag
condition depth here s = if nat_le 16 depth then Err (TooDeep, here) else (do
  cut ← ok_or (split_once 63 s) (QuestionExpected, [])
  tag ← named_tag cut.0 s
  if begins 123 cut.1 then Ok (tag, drop 1 cut.1) else Err (BraceExpected, cut.1))

-- after a first branch: a bar, or a `:` (58) and a `{` in front of a second one
abbrev pub second_follows : List ℕ → Reading Bool
second_follows s =
    if begins 124 s then Ok (false, drop 1 s)
    else if begins 58 s then (if begins 123 (drop 1 s) then Ok (true, drop 1 (drop 1 s))
    else Err (BraceExpected, drop 1 s))
    else Err (BarExpected, s)

-- after a second branch: a bar
abbrev pub close : List ℕ → Result (List ℕ) Faulty
close s = if begins 124 s then Ok (drop 1 s) else Err (BarExpected, s)

-- ---- the first bytes

-- a b f n r t v, and what they stand for
abbrev pub escape : ℕ → ℕ
escape b =
    if b == 97 then 7 else if b == 98 then 8 else if b == 102 then 12 else if b == 110 then 10 else if b == 114 then 13
    else if b == 116 then 9 else if b == 118 then 11 else b

-- after a percent, which stands here: another one (37), a bar, or a tag
abbrev pub percent : ℕ → List ℕ → List ℕ → Move
percent depth here s =
    if begins 37 s then Literal 37 (drop 1 s)
    else if begins 124 s then (elim (condition depth here (drop 1 s)) [ Ok x ↦ Asks x.0 x.1 | Err e ↦ Stops e ])
    else (elim (tag_part s) [ Ok x ↦ Shows x.0 x.1 | Err e ↦ Stops e ])

-- A byte makes this move, in a context, within a bracket or not, and within so many conditions: a backslash (92), `[`
-- (91), `]` (93), which ends a bracket, `}` (125), which ends a branch, a percent (37), or any other byte. The end of
-- the text is a fault in a bracket and in a branch.
unfoldable pub move_of : Context → Bool → ℕ → List ℕ → Move
move_of c in_bracket depth [] =
    elim c [ Top ↦ Ends [] | Bracket ↦ Stops (BracketExpected, []) | Branch ↦ Stops (MissingClose, []) ]
move_of c in_bracket depth (b ∷ s) =
    if b == 92 then (elim s [ [] ↦ Literal 92 [] | (x ∷ rest) ↦ Literal (escape x) rest ])
    else if b == 91 then (if in_bracket then Stops (NestedBracket, b ∷ s) else Opens s)
    else if b == 93 then (if elim c [ Bracket ↦ true | _ ↦ false ] then Ends s else Stops (UnexpectedBracket, b ∷ s))
    else if b == 125 then (if elim c [ Branch ↦ true | _ ↦ false ] then Ends s else Stops (UnexpectedBrace, b ∷ s))
    else if b == 37 then percent depth (b ∷ s) s
    else Literal b s
