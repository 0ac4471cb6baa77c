-- How a course went on a disk and a database: how far, which limit stopped it, and what it left.
use Rattle.std.specs.Prelude.{◌≡◌, ℕ, List, ◌++◌, true, false, IsTrue, IfOk, OnOk, Result, Ok, Err}
use Rattle.rpm_outside.specs.declared.disk.Disk as disk
use Rattle.rpm_outside.specs.Files.{Files, Units, unit_at}
use Rattle.rpm_outside.specs.Frame.{DiskFault}
use Rattle.rpm_hindex.specs.Refusals.{IsBadFor}
use Rattle.rpm_hindex.specs.Rows.{Row}
use Rattle.rpm_hindex.specs.State.{buckets_of}
use Rattle.rpm_hindex.specs.declared.faults.PrepareFault.TheVariants as prepare
use Rattle.rpm_db.specs.Changed.{IsReady}
use Rattle.rpm_db.specs.Changes.{Change}
use Rattle.rpm_db.specs.Database.{Database, is_indexed}
use Rattle.rpm_db.specs.Frame.{IsIndexed, Runs, Serving, state_in}
use Rattle.rpm_db.specs.Database.{store_of}
use Rattle.rpm_db.specs.Gathering.{IsGathering, OwesOn, due}
use Rattle.rpm_db.specs.Lawful.{IsWholeIndex}
use Rattle.rpm_db.specs.Reaches.{Gains}
use Rattle.rpm_db.specs.State.{State}
use Rattle.rpm_db.specs.declared.netting.RowChange.{RowChange}
use Rattle.rpm_db.specs.Runs.{SameLog}
use Rattle.rpm_effects.specs.declared.tally.Tally.{Tally}
use Rattle.rpm_effects.specs.declared.tally.Halt.{Halt}
use Rattle.rpm_effects.specs.declared.tally.Halt.TheVariants as halt
use Rattle.rpm_change.specs.ByIndex.{ByIndex}
use Rattle.rpm_change.specs.Limits.{LimitsTurn}
use Rattle.rpm_change.specs.Reaches.{all_added}
use Rattle.rpm_effects.specs.Steps.{Course}

-- ---- an index that is broken

-- a command that begins with an index that is well formed as a whole leaves one, and is never stopped for it
abbrev pub WholeTurn : Units → Result Tally Halt → Type 0
WholeTurn idx (Ok tally) = IsWholeIndex idx
WholeTurn idx (Err (halt.BadIndex unit)) = ⊥
WholeTurn idx (Err others) = Unit {0}

-- a unit of an index is that of the first fault of a chain, or is 1, which counts less than some of the rows of the
-- chains
abbrev pub IsBlamed : Units → ℕ → Type 0
IsBlamed idx unit = (drops : List Row) × IsBadFor drops (buckets_of (unit_at idx 0)) idx (prepare.BadIndex unit)

-- a command that is stopped for a bad index names such a unit
abbrev pub BadTurn : Units → Result Tally Halt → Type 0
BadTurn idx (Err (halt.BadIndex unit)) = IsBlamed idx unit
BadTurn idx others = Unit {0}

-- ---- the rows that are added

-- an index gets the rows that these changes bring, whatever it holds
abbrev pub GetsAdded : Units → Units → List Change → State → Type 0
GetsAdded old new changes s = Gains (all_added s changes) old new

-- an index is owed the rows that these changes bring, beside those from before
pub record OwesAdded (owed more : RowChange) (changes : List Change) (s : State) : Type 0 where
  pub adds : more.adds ≡ owed.adds ++ all_added s changes

-- ---- the disk and the database

module _ {D : Type 0} (d : disk.Ghosts D) where
  -- a database can be changed further, and its index holds the rows where it did before
  pub record IsChangeable (old new : D) (before after : Database) : Type 0 where
    pub going : after.stopped ≡ false
    pub serving : Serving d new after
    pub index : IsTrue d.tells → IsIndexed d old before → IsIndexed d new after

  -- a database can be changed further, and its index holds the rows of its packages
  pub record IsCurrent (at : D) (db : Database) : Type 0 where
    pub ready : IsReady d at db
    pub index : IsTrue d.tells → IsIndexed d at db

  -- ---- the course

  -- what is left, however it went; this too where it was done
  pub record EndStateBy (Carried : Type 0) (old new : D) (after : Database) (r : Result Tally Halt) : Type 0 where
    pub carried : IfOk r (λ tally. Carried)
    pub indexed : is_indexed after ≡ true
    pub runs : Runs d SameLog old new
    pub disk : DiskFault d (r ≡ Err halt.DiskFault) old new

  -- a database that can be changed further was left so on this disk
  abbrev pub EndStateOn : D → D → Database → Database → Result Tally Halt → Type 0
  EndStateOn old new before after r = EndStateBy (IsChangeable old new before after) old new after r

  -- how far it went, which limit stopped it, and which unit of the index it blames, once the contents are told; and
  -- what is left. The index is asked where this holds, is given this of the changes, and the files reach as far as
  -- these
  pub record ProgressBy (Carried Asked Told : Type 0) (Given : List Change → State → Type 0) (from to : Files)
      (old new : D)
      (before after : Database) (r : Result Tally Halt) (Ends : Course → State → State → Result Tally Halt → Type 0)
      (course : Course) : Type 0 where
    pub ended : Told → Ends course (state_in d old before) (state_in d new after) r
    pub limits : Told → ByIndex Asked (λ indexed. LimitsTurn indexed (state_in d old before) (store_of before)
        (store_of after) from to course.changes r)
    pub whole : IsTrue d.tells → IsWholeIndex (d.files old).idx → WholeTurn (d.files new).idx r
    pub bad : IsTrue d.tells → BadTurn (d.files old).idx r
    pub given : Told → OnOk r (Given course.changes (state_in d old before))
    pub left : EndStateBy Carried old new after r

  -- where each change is written to both files
  abbrev pub ProgressInBoth : Type 0 → D → D → Database → Database → Result Tally Halt
      → (Course → State → State → Result Tally Halt → Type 0) → Course → Type 0
  ProgressInBoth Told old new before after r Ends course =
      ProgressBy (IsChangeable old new before after) (IsIndexed d old before) Told
      (GetsAdded (d.files old).idx (d.files new).idx)
      (d.files old) (d.files new) old new before after r Ends course

  -- ---- a batch, whose rows are gathered

  -- a batch goes on, the index is the one that was found, and is owed these rows
  pub record IsOwing (Asked : Type 0) (found : Units) (at : D) (db : Database) (owed : RowChange) : Type 0 where
    pub gathering : IsGathering d at db owed
    pub stays : IsTrue d.tells → (d.files at).idx ≡ found
    pub owes : IsTrue d.tells → Asked → OwesOn d at db owed

  -- the changes are written to the store alone; the files reach as far as once the index has their rows
  abbrev pub ProgressOwing : Type 0 → D → D → Database → Database → RowChange → RowChange → Result Tally Halt
      → (Course → State → State → Result Tally Halt → Type 0) → Course → Type 0
  ProgressOwing Told old new before after owed more r Ends course =
      ProgressBy (IsOwing (OwesOn d old before owed) (d.files old).idx new after more) (OwesOn d old before owed) Told
      (OwesAdded owed more) (due (d.files old) before owed)
      (due (d.files new) after more) old new before after r Ends course
