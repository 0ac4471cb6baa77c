-- What command lines ask to change: by it `plain`, `changes`, `empty`, `looks` and `shelf_unread` of the page
-- (`rpm_tool`, Theorem.antt) tell commands apart.
use Rattle.std.specs.Prelude.{ℕ, ◌<◌, ◌≤◌, ◌^◌, List, length, map, unwrap_or, Option, Some, None, slice_index}
use Rattle.std.specs.List.{filter_map}
use Rattle.rpm_words.specs.declared.ask.Mode.TheVariants.{Addpkg, Replacepkg, Erasepkg, Initdb, Importdb, Rebuilddb, Exercise}
use Rattle.rpm_words.specs.Ask.{AskParts}
use Rattle.rpm_words.specs.Number.{number}
use Rattle.rpm_words.specs.Words.{word_at}
use Rattle.rpm_command.specs.declared.task.Task.{Task}
use Rattle.rpm_command.specs.declared.task.Task.TheVariants as task

-- what a command changes, with what it is asked: it makes a database where there is none, adds the package files under
-- these paths, puts one in place of a number's package, erases the packages of these numbers, imports a list, rebuilds
-- the database, or makes the exercise of so many headers
pub data TaskParts : Type 0 where
  Making Importing Rebuilding : TaskParts
  Adding : List (List ℕ) → TaskParts
  Replacing : ℕ → List ℕ → TaskParts
  Erasing : List ℕ → TaskParts
  Exercising : ℕ → TaskParts

-- a task as contracts see it, its texts as lists of bytes
abbrev pub task_parts : Task → TaskParts
task_parts task.Make = Making
task_parts (task.Add paths) = Adding (map (λ path. path.now) paths.items)
task_parts (task.Replace number path) = Replacing number path.now
task_parts (task.Erase numbers) = Erasing numbers.items
task_parts task.Import = Importing
task_parts task.Rebuild = Rebuilding
task_parts (task.Exercise headers) = Exercising headers

-- the task of a command, with its arguments, where it changes anything; replacing takes a number and a path
abbrev pub asked_task : List (List ℕ) → AskParts → Option TaskParts
asked_task words a = elim a.mode [
  | Initdb ↦ Some Making
  | Addpkg ↦ Some (Adding (map (word_at words) a.arguments))
  | Replacepkg ↦ Some (Replacing (unwrap_or (number (word_at words (slice_index a.arguments 0))) 0)
      (word_at words (slice_index a.arguments 1)))
  | Erasepkg ↦ Some (Erasing (filter_map (λ w. number (word_at words w)) a.arguments))
  | Importdb ↦ Some Importing
  | Rebuilddb ↦ Some Rebuilding
  | Exercise n ↦ Some (Exercising n)
  | others ↦ None
]

-- no more arguments than words can have, nor headers than an exercise
abbrev pub IsCountable : TaskParts → Type 0
IsCountable (Adding paths) = length paths < 2 ^ 32
IsCountable (Erasing numbers) = length numbers < 2 ^ 32
IsCountable (Exercising n) = n ≤ 100000
IsCountable others = Unit {0}
