-- What functions say of the beginning of a text.
use Rattle.std.specs.Prelude.{ℕ, List, [], ◌∷◌, drop, Option, Some, None, Bool, true, false, nat_eq}
use Rattle.std.specs.Prelude.{if◌then◌else◌}
use Rattle.std.specs.Cmp.Lexicographic.{pointwise}
use Rattle.std.specs.Map.{lookup}
use Rattle.rpm_qfparse.specs.declared.fault.FormatKind.TheVariants.{BracketExpected, MissingClose}
use Rattle.rpm_qfparse.specs.declared.tree.Show.{Show}
use Rattle.rpm_qfparse.specs.declared.moves.Context.{Context}
use Rattle.rpm_qfparse.specs.declared.moves.Context.TheVariants as context
use Rattle.rpm_qfparse.specs.Tag.{begins, formatter_table}
use Rattle.rpm_qfparse.specs.Moves.{Move, Ends, Stops, Literal, escape}

-- whether a `-` (45) stands in front
abbrev pub side : List ℕ → Bool × List ℕ
side s = if begins 45 s then (true, drop 1 s) else (false, s)

-- the formatter of a name in a table
unfoldable pub show_in : List (List ℕ × Show) → List ℕ → Option Show
show_in [] name = None
show_in (row ∷ rows) name = if pointwise nat_eq name row.0 then Some row.1 else show_in rows name

-- the formatter of a name
abbrev pub show_of : List ℕ → Option Show
show_of name = lookup (pointwise nat_eq name) formatter_table

-- the end of the text, which is a fault in a bracket and in a branch
abbrev pub at_end : Context → Move
at_end context.Top = Ends []
at_end context.Bracket = Stops (BracketExpected, [])
at_end context.Branch = Stops (MissingClose, [])

-- what stands after a backslash
abbrev pub escaped_move : List ℕ → Move
escaped_move [] = Literal 92 []
escaped_move (b ∷ s) = Literal (escape b) s
