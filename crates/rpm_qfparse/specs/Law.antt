-- What a text is by the rules, and what each tree that is read has.
use Rattle.std.specs.Prelude.{◌≡◌, ℕ, ◌+◌, ◌<◌, ◌≤◌, ◌⊎◌, List, [], length, Result, Ok, Err, Bool, true, false}
use Rattle.rpm_qfparse.specs.declared.fault.FormatKind.{FormatKind}
use Rattle.rpm_qfparse.specs.declared.fault.FormatKind.TheVariants.{TooLong}
use Rattle.rpm_qfparse.specs.declared.fault.FormatFault.{FormatFault}
use Rattle.rpm_qfparse.specs.declared.moves.Context.{Context}
use Rattle.rpm_qfparse.specs.declared.moves.Context.TheVariants as context
use Rattle.rpm_qfparse.specs.Tree.{Tree, End, Text, Tagged, Bracket, Condition}
use Rattle.rpm_qfparse.specs.Format.{Gives}

-- A text is read as this tree up to the end of a context, with these bytes after it.
abbrev pub Reads : Context → Bool → ℕ → List ℕ → Tree → List ℕ → Type 0
Reads c in_bracket depth s tree rest = Gives c in_bracket depth s (Ok (tree, rest))

-- A text has this fault first, from whose place on it has these bytes.
abbrev pub FormatFails : Context → Bool → ℕ → List ℕ → FormatKind → List ℕ → Type 0
FormatFails c in_bracket depth s kind rest = Gives c in_bracket depth s (Err (kind, rest))

-- the text has more than 65,536 bytes, and that is its fault
abbrev pub IsTooLong : List ℕ → FormatFault → Type 0
IsTooLong text fault = (65536 < length text) × (fault ≡ record { kind = TooLong; at = 65536 })

-- the place of a fault counts the bytes in front of it
abbrev pub IsFault : List ℕ → FormatFault → Type 0
IsFault text fault = (length text ≤ 65536) × (rest : List ℕ) × FormatFails context.Top false 0 text fault.kind rest
    × (fault.at + length rest ≡ length text)

-- a text is a tree that has all of it in it, or it has a fault
abbrev pub IsFormat : List ℕ → Result Tree FormatFault → Type 0
IsFormat text (Ok tree) = (length text ≤ 65536) × Reads context.Top false 0 text tree []
IsFormat text (Err fault) = IsTooLong text fault ⊎ IsFault text fault

-- a tree that doesn't begin with a text
abbrev pub BeginsApart : Tree → Type 0
BeginsApart (Text b rest) = ⊥
BeginsApart _ = Unit {0}

-- A tree is proper, within a bracket or not and within so many conditions: texts are longest runs, widths at most
-- 4,096, brackets don't nest, and conditions do so at most 16 deep.
abbrev pub IsProper : Bool → ℕ → Tree → Type 0
IsProper in_bracket depth End = Unit {0}
IsProper in_bracket depth (Text bytes rest) = (0 < length bytes) × BeginsApart rest × IsProper in_bracket depth rest
IsProper in_bracket depth (Tagged part rest) = (part.width ≤ 4096) × IsProper in_bracket depth rest
IsProper in_bracket depth (Bracket inner rest) = (in_bracket ≡ false) × IsProper true depth inner
    × IsProper in_bracket depth rest
IsProper in_bracket depth (Condition tag first second rest) =
    (depth < 16) × IsProper in_bracket (depth + 1) first × IsProper in_bracket (depth + 1) second
    × IsProper in_bracket depth rest
