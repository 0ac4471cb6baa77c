-- What each command that changes packages does: the course that it takes from the state that it finds. On it rest
-- `changes`, `empty` and `shelf_unread` of the page (`rpm_tool`, Theorem.antt).
use Rattle.std.specs.Prelude.{ℕ, codes, Bool, true, false, not}
use Rattle.rpm_outside.specs.Shelves.{Paths, bytes_at}
use Rattle.rpm_db.specs.State.{State}
use Rattle.rpm_command.specs.Tasks.{TaskParts, Making, Adding, Replacing, Erasing, Importing, Rebuilding, Exercising}
use Rattle.rpm_effects.specs.Steps.{Course, idle}
use Rattle.rpm_change.specs.Adding.{add_files, replace}
use Rattle.rpm_change.specs.Erasing.{erase}
use Rattle.rpm_change.specs.Importing.{import_list}
use Rattle.rpm_change.specs.Rebuilding.{rebuild}
use Rattle.rpm_exercise.specs.Exercised.{exercise}

-- how many headers a list may have
abbrev pub max_headers : ℕ
max_headers = 16777215

-- a task has this course, with the package files that a shelf holds, at this moment; making a database changes no
-- package
abbrev pub task_course : Paths → ℕ → TaskParts → State → Course
task_course paths now Making s = idle
task_course paths now (Adding files) s = add_files paths now s files
task_course paths now (Replacing n path) s = replace paths now s n path
task_course paths now (Erasing numbers) s = erase s numbers
task_course paths now Importing s = import_list max_headers (bytes_at paths (codes "-"))
task_course paths now Rebuilding s = rebuild s
task_course paths now (Exercising n) s = exercise n s

-- a task reads package files
abbrev pub reads_shelf : TaskParts → Bool
reads_shelf (Adding files) = true
reads_shelf (Replacing n path) = true
reads_shelf Importing = true
reads_shelf others = false

-- a task makes the index anew, whatever it is
abbrev pub is_anew : TaskParts → Bool
is_anew Rebuilding = true
is_anew (Exercising n) = true
is_anew others = false

-- a task changes the index that it finds; another makes it anew, or changes no package
abbrev pub changes_index : TaskParts → Bool
changes_index Making = false
changes_index others = not (is_anew others)

-- a task asks for a database without packages
abbrev pub needs_none : TaskParts → Bool
needs_none (Exercising n) = true
needs_none others = false
