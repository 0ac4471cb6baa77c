-- What command lines ask for, each step of it by a name of its own: proofs go by these steps.
use Rattle.std.specs.Prelude.{ℕ, List, Option, Some, None, Result, Ok, Err, Bool, true, false, is_some, map, unwrap_or, slice_index}
use Rattle.std.specs.List.{filter_map}
use Rattle.rpm_words.specs.declared.ask.Mode.{Mode}
use Rattle.rpm_words.specs.declared.ask.Mode.TheVariants as mode
use Rattle.rpm_words.specs.declared.switch.Chosen.{Chosen}
use Rattle.rpm_words.specs.declared.switch.Chosen.TheVariants as by
use Rattle.rpm_words.specs.declared.fault.WordsFault.{WordsFault}
use Rattle.rpm_words.specs.Ask.{AskParts}
use Rattle.rpm_words.specs.Number.{number}
use Rattle.rpm_words.specs.Words.{word_at}
use Rattle.rpm_qfparse.specs.declared.fault.FormatFault.{FormatFault}
use Rattle.rpm_qfparse.specs.Tree.{Tree}
use Rattle.rpm_qfparse.specs.Format.{format}
use Rattle.rpm_command.specs.Asked.{format_text}
use Rattle.rpm_command.specs.Tasks.{TaskParts, Making, Adding, Replacing, Erasing, Importing, Rebuilding, Exercising, asked_task}

-- the task of each mode that changes anything, with its arguments
abbrev pub task_in : Mode → List (List ℕ) → AskParts → Option TaskParts
task_in m words a = elim m [
  | mode.Initdb ↦ Some Making
  | mode.Addpkg ↦ Some (Adding (map (word_at words) a.arguments))
  | mode.Replacepkg ↦ Some (Replacing (unwrap_or (number (word_at words (slice_index a.arguments 0))) 0)
      (word_at words (slice_index a.arguments 1)))
  | mode.Erasepkg ↦ Some (Erasing (filter_map (λ w. number (word_at words w)) a.arguments))
  | mode.Importdb ↦ Some Importing
  | mode.Rebuilddb ↦ Some Rebuilding
  | mode.Exercise n ↦ Some (Exercising n)
  | others ↦ None
]

-- a query opens the database with its index where it asks for it, and the reports on requirements always do
abbrev pub opens_index : Mode → Bool → Bool
opens_index m asked = elim m [ mode.Query ↦ asked | mode.Verify ↦ true | mode.Order ↦ true | _ ↦ false ]

-- whether arguments name packages
abbrev pub is_package : Chosen → Bool
is_package chosen = elim chosen [ by.Package ↦ true | _ ↦ false ]

-- the words break no rule, and ask for a change of the database
abbrev pub changes_in : List (List ℕ) → Result AskParts WordsFault → Bool
changes_in words asked = elim asked [ Ok a ↦ is_some (asked_task words a) | Err f ↦ false ]

-- what the format of a command that was read is read as
abbrev pub format_in : List (List ℕ) → Result AskParts WordsFault → Option (Result Tree FormatFault)
format_in words asked = elim asked [ Ok a ↦ Some (format (format_text words a)) | Err f ↦ None ]

-- the command and its format, where both could be read
abbrev pub command_and_format : Result AskParts WordsFault → Option (Result Tree FormatFault) → Option (AskParts × Tree)
command_and_format asked read = elim asked
    [ Ok a ↦ elim read [ Some (Ok tree) ↦ Some (a, tree) | _ ↦ None ] | Err f ↦ None ]
