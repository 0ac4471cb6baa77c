-- What a command that changes packages answers and leaves: point 6 of the page (`rpm_tool`, Theorem.antt).
use Rattle.rpm_outside.specs.declared.disk.Disk as disk
use Rattle.rpm_outside.specs.Logs.{reopened_files}
use Rattle.rpm_db.specs.State.{State, state}
use Rattle.rpm_effects.specs.Steps.{Course}
use Rattle.rpm_commit.specs.Changing.{ChangeProgress, ChangesWith, FilesAnswer}
use Rattle.rpm_commit.specs.Lawful.{IsLawfulDatabase}
use Rattle.rpm_commit.specs.Limits.{FaultIs, LimitsBy, LogBy}
use Rattle.rpm_commit.specs.Run.{Run}
use Rattle.rpm_command.specs.Tasks.{TaskParts}
use Rattle.rpm_commit.specs.Tasks.{changes_index, is_anew}

-- A command with this task took this course: what it printed, and what it left; which limit it is answered, and how
-- long its log is where that is refused; and when the disk failed.
pub record AnswersChange {D : Type 0} {d : disk.Ghosts D} (r : Run d) (task : TaskParts)
    (course : State → Course) : Type 0 where
  pub did : FilesAnswer (λ s. ChangeProgress (course (state (reopened_files (d.files r.found)).pkg s)) r.why r.before r.after)
      (d.files r.found) r.why r.before r.after
  pub changed : ChangesWith r (is_anew task) (changes_index task) course
  pub limits : LimitsBy (is_anew task) (IsLawfulDatabase (d.files r.found)) course (reopened_files (d.files r.found)) r.why
  pub fault : FaultIs r (is_anew task) course
  pub log : LogBy (is_anew task) (IsLawfulDatabase (d.files r.found)) course (reopened_files (d.files r.found)) r.why
