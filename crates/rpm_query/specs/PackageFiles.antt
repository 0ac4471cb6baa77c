-- What a query of package files does: `files` of the page (`rpm_tool`, Theorem.antt), and its law `files_after`.
use Rattle.std.specs.Prelude.{ℕ, List, [], ◌∷◌, map, Some, None, Ok, Err}
use Rattle.rpm_outside.specs.Shelves.{Paths, bytes_at}
use Rattle.rpm_file.specs.Package.{package_header}
use Rattle.rpm_words.specs.Words.{word_at}
use Rattle.rpm_words.specs.Ask.{AskParts}
use Rattle.rpm_qfparse.specs.Tree.{Tree}
use Rattle.rpm_qfeval.specs.Meaning.{meaning}
use Rattle.rpm_effects.specs.Texts.{refused_line, absent_line}
use Rattle.rpm_effects.specs.Steps.{bearer, whole_step, ToErr, Course}
use Rattle.rpm_effects.specs.Portions.{Portion, fails, told_portion, parts_in_turn}
use Rattle.rpm_print.specs.Printed.{printed_step}

-- the file under a path has its header printed with the number 0; where it isn't there, or is refused, it has a line,
-- for which the argument fails
abbrev pub file_part : Tree → Paths → ℕ → List ℕ → Portion
file_part tree paths j path = elim (bytes_at paths path) [
  | None ↦ fails (ToErr (whole_step j) (absent_line path))
  | Some bytes ↦ elim (package_header bytes) [
    | Ok found ↦ told_portion (printed_step (bearer j 0) (meaning found.header 0 tree) ∷ [])
    | Err fault ↦ fails (ToErr (whole_step j) (refused_line path fault))
  ]
]

-- each argument is a path, and `-` the standard input; no number is passed over
abbrev pub query_files : Tree → Paths → List (List ℕ) → AskParts → Course
query_files tree paths words a = parts_in_turn (file_part tree paths) 0 (map (word_at words) a.arguments)
