-- What a part of the exercise leaves of the database.
use Rattle.std.specs.Prelude.{◌≡◌, List, true, IsTrue, IfErr, IfSome, Option, Some, Result}
use Rattle.rpm_outside.specs.declared.disk.Disk as disk
use Rattle.rpm_outside.specs.Frame.{DiskFault}
use Rattle.rpm_db.specs.Changes.{Change}
use Rattle.rpm_db.specs.Database.{Database, is_indexed}
use Rattle.rpm_db.specs.Frame.{Runs}
use Rattle.rpm_db.specs.Runs.{SameFiles}
use Rattle.rpm_db.specs.declared.netting.RowChange.{RowChange}
use Rattle.rpm_select.specs.Frame.{HasKeptRows}
use Rattle.rpm_effects.specs.declared.tally.Tally.{Tally}
use Rattle.rpm_effects.specs.declared.tally.Halt.{Halt}
use Rattle.rpm_effects.specs.declared.tally.Halt.TheVariants as halt
use Rattle.rpm_change.specs.Singles.{IsSpent}
use Rattle.rpm_effects.specs.Shown.{EndedQuietly}
use Rattle.rpm_change.specs.Progress.{ProgressInBoth, ProgressOwing}
use Rattle.rpm_exercise.specs.Endings.{IsOfQuestion, IsOfAsking, IsOfExercise}
use Rattle.rpm_exercise.specs.Rounds.{IsOfChanges, course_of_changes}

module _ {D : Type 0} (d : disk.Ghosts D) where
  -- questions were asked, and nothing else happened; what stopped them, if anything did, is none of the index where
  -- that has the rows of the packages
  pub record ExerciseQuestion (old new : D) (db : Database) (stop : Option Halt) : Type 0 where
    pub lawful : IsTrue d.tells → HasKeptRows d old db → IfSome stop IsOfQuestion
    pub kinds : IfSome stop IsOfAsking
    pub runs : Runs d SameFiles old new
    pub disk : DiskFault d (stop ≡ Some halt.DiskFault) old new

  -- a list of changes was made, or the first that is refused stopped them; and this is left
  pub record ChangesProgress (changes : List Change) (old new : D) (before after : Database)
      (r : Result Tally Halt) : Type 0 where
    pub course : ProgressInBoth d (IsTrue d.tells) old new before after r EndedQuietly (course_of_changes changes)
    -- numbers or generations are said to be spent only where they are
    pub spent : IfErr r (IsSpent after)
    pub kinds : IfErr r IsOfChanges

  -- changes of a batch were made in the store, and their rows are owed; or the first that is refused stopped them
  pub record GathersThrough (changes : List Change) (old new : D) (before after : Database) (owed more : RowChange)
      (r : Result Tally Halt) : Type 0 where
    pub course : ProgressOwing d (IsTrue d.tells) old new before after owed more r EndedQuietly
        (course_of_changes changes)
    pub spent : IfErr r (IsSpent after)
    pub kinds : IfErr r IsOfChanges

-- an exercise was halted for this: for nothing that it doesn't do, for spent numbers only where they are, and the
-- index is kept
pub record IsStop (db : Database) (h : Halt) : Type 0 where
  pub kind : IsOfExercise h
  pub spent : IsSpent db h
  pub indexed : is_indexed db ≡ true
