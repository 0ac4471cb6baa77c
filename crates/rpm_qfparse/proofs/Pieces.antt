-- What is read of a text and of a context, part by part.
use Rattle.std.proofs.Common.{ℕ, List, [], length, drop, Result, Ok, Err, Bool, true, false, ◌-◌}
use Rattle.std.specs.Prelude.{if◌then◌else◌}
use Rattle.std.specs.Char.{is_ascii_digit}
use Rattle.std.specs.List.{prefix_len}
use Rattle.std.specs.Option.{ok_or}
use Rattle.rpm_tags.specs.declared.tag.Tag.{Tag}
use Rattle.rpm_qfparse.specs.declared.fault.FormatKind.TheVariants.{QuestionExpected, BraceExpected}
use Rattle.rpm_qfparse.specs.declared.fault.FormatFault.{FormatFault}
use Rattle.rpm_qfparse.specs.declared.moves.Context.{Context}
use Rattle.rpm_qfparse.specs.declared.moves.Context.TheVariants as context
use Rattle.rpm_qfparse.specs.declared.tree.TagPart.{TagPart}
use Rattle.rpm_qfparse.specs.Tree.{Tree}
use Rattle.rpm_qfparse.specs.Tag.{Reading, ◌>>=◌, begins, split_once, named_tag}
use Rattle.rpm_qfparse.specs.Moves.{Move, Stops, Shows, Asks}

-- how many digits stand in front
abbrev pub digit_count : List ℕ → ℕ
digit_count s = prefix_len is_ascii_digit s

-- the tag of a condition, after its bar
abbrev pub asked_tag : List ℕ → Reading Tag
asked_tag s = do
  cut ← ok_or (split_once 63 s) (QuestionExpected, [])
  tag ← named_tag cut.0 s
  if begins 123 cut.1 then Ok (tag, drop 1 cut.1) else Err (BraceExpected, cut.1)

-- a tag that was read, or its fault
abbrev pub shows : Reading TagPart → Move
shows (Ok x) = Shows x.0 x.1
shows (Err e) = Stops e

-- the tag of a condition that was read, or its fault
abbrev pub asks_tag : Reading Tag → Move
asks_tag (Ok x) = Asks x.0 x.1
asks_tag (Err e) = Stops e

-- what is read is a bracket
abbrev pub is_bracket : Context → Bool
is_bracket context.Bracket = true
is_bracket _ = false

-- what is read is a branch of a condition
abbrev pub is_branch : Context → Bool
is_branch context.Branch = true
is_branch _ = false

-- the tree alone, or the fault with its place in the text
abbrev pub placed_result : List ℕ → Reading Tree → Result Tree FormatFault
placed_result text (Ok x) = Ok x.0
placed_result text (Err e) = Err (record { kind = e.0; at = length text - length e.1 })
