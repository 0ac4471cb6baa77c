-- The answers to words that aren't done.
use Rattle.std.specs.Prelude.{◌≡◌, ◌≢◌, ◌⊎◌, Option, Some, Result, Err}
use Rattle.rpm_words.specs.declared.fault.WordsFault.{WordsFault}
use Rattle.rpm_words.specs.declared.fault.WordsKind.TheVariants as kind
use Rattle.rpm_words.specs.Ask.{AskParts}
use Rattle.rpm_qfparse.specs.declared.fault.FormatFault.{FormatFault}
use Rattle.rpm_qfparse.specs.declared.fault.FormatKind.TheVariants as wrong
use Rattle.rpm_qfparse.specs.Tree.{Tree}
use Rattle.rpm_effects.specs.declared.answer.Why.{Why}
use Rattle.rpm_effects.specs.declared.answer.Why.TheVariants as why

-- an answer that comes only where this holds, and always there, a want of memory aside
abbrev pub ComesWhere : Why → Why → Type 0 → Type 0
ComesWhere answer given Holds = (given ≡ answer → Holds) × (Holds → (given ≡ answer) ⊎ (given ≡ why.NoMemory))

-- what goes with each of them, given what the words and their format were read as
abbrev pub Undone : Result AskParts WordsFault → Option (Result Tree FormatFault) → Why → Type 0
Undone asked read (why.Usage fault) = (asked ≡ Err fault) × (fault.kind ≢ kind.NoMemory)
Undone asked read (why.BadFormat fault) = (read ≡ Some (Err fault)) × (fault.kind ≢ wrong.NoMemory)
Undone asked read why.NoMemory = Unit {0}
Undone asked read _ = ⊥
