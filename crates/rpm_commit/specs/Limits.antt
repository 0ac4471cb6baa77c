-- The limits of a command that changes packages: the first that it meets is the one that it is answered; and when the
-- disk failed. On it rest `limits`, `log` and `fault` of `changes` on the page (`rpm_tool`, Theorem.antt).
use Rattle.std.specs.Prelude.{◌≡◌, ◌⊎◌, ◌^◌, ◌<◌, ◌≤◌, ◌||◌, if◌then◌else◌, Bool, true, false, Option, Some, None, Ok, IfOk}
use Rattle.rpm_outside.specs.declared.disk.Disk as disk
use Rattle.rpm_outside.specs.Files.{Files}
use Rattle.rpm_outside.specs.Frame.{images, CrashLeaves}
use Rattle.rpm_outside.specs.Logs.{reopened_files}
use Rattle.rpm_pkgdb.specs.Store.{store}
use Rattle.rpm_group.specs.Transactions.{longest_log}
use Rattle.rpm_group.specs.Crashes.{ReopensAsOneOf}
use Rattle.rpm_db.specs.Changes.{Says}
use Rattle.rpm_db.specs.Openings.{must_rebuild}
use Rattle.rpm_db.specs.State.{State, state}
use Rattle.rpm_effects.specs.declared.tally.Halt.{Halt}
use Rattle.rpm_effects.specs.declared.tally.Halt.TheVariants as halt
use Rattle.rpm_effects.specs.Progress.{Through}
use Rattle.rpm_change.specs.ByIndex.{ByIndex}
use Rattle.rpm_change.specs.Limits.{limit_of_changes, limit_of_command}
use Rattle.rpm_effects.specs.Steps.{Course}
use Rattle.rpm_effects.specs.declared.answer.Why.{Why}
use Rattle.rpm_effects.specs.declared.answer.Why.TheVariants as why
use Rattle.rpm_commit.specs.Lawful.{IsLawfulDatabase, AreLawfulDatabases, MayBegin, IsLawfulAndSame}
use Rattle.rpm_commit.specs.Changing.{after}
use Rattle.rpm_commit.specs.Reaches.{LengthsOn, begun_store}
use Rattle.rpm_commit.specs.Run.{Run}

-- a command that was done met no limit, nor one whose log is too long; one that a limit stopped met that one first, and
-- its index isn't bad
abbrev pub MeetsFirst : Bool → Option Halt → Why → Type 0
MeetsFirst indexed first why.Done = first ≡ None
MeetsFirst indexed first (why.Failed n) = first ≡ None
MeetsFirst indexed first (why.LogFull units) = first ≡ None
MeetsFirst indexed first why.NumbersSpent = first ≡ Some halt.NumbersSpent
MeetsFirst indexed first why.GenerationSpent = first ≡ Some halt.GenerationSpent
MeetsFirst indexed first why.StoreFull = first ≡ Some halt.StoreFull
MeetsFirst indexed first (why.IndexFull told) = indexed ≡ true → first ≡ Some (halt.IndexFull told)
MeetsFirst indexed first (why.BadIndex unit) = indexed ≡ false
MeetsFirst indexed first others = Unit {0}

-- a course meets its first limit, on files whose Packages.db isn't damaged: an index that has no room, where one is made
-- before the changes, as a command that makes it anew always does, and then what refuses the first change that is
-- refused; where the index isn't asked, only what comes before it in a change. It is asked where it is made anew, and
-- where the database is lawful
abbrev pub LimitsBy : Bool → Type 0 → (State → Course) → Files → Why → Type 0
LimitsBy anew Lawful course files given =
    ByIndex (MayBegin anew Lawful) (λ indexed. IfOk (store files.pkg) (λ value.
    let s = state files.pkg value in
    let changes = (course s).changes in
    let first : Option Halt = if indexed
    then limit_of_command (anew || must_rebuild files.idx (Ok value)) s (begun_store value) changes
    else limit_of_changes false s (begun_store value) changes in
    MeetsFirst indexed first given))

-- ---- the log

-- a log of so many units is refused, which no log of a transaction that leaves these files is longer than
abbrev pub LogIs : Files → Why → Type 0
LogIs made (why.LogFull needed) = (2 ^ 28 < needed) × (needed ≤ longest_log made)
LogIs made others = Unit {0}

-- a course has LogFull told only where its transaction is too long, on files whose Packages.db isn't damaged: some files
-- with the state after it, that reach no further, have so long a log. The index is asked as above
abbrev pub LogBy : Bool → Type 0 → (State → Course) → Files → Why → Type 0
LogBy anew Lawful course files given = ByIndex (MayBegin anew Lawful) (λ indexed. elim given [
  | why.LogFull needed ↦ IfOk (store files.pkg) (λ value. (made : Files)
      × Says (λ t. t ≡ after course (state files.pkg value)) made.pkg
      × LengthsOn indexed files.pkg files.idx value (state files.pkg value) (course (state files.pkg value)).changes made
      × (2 ^ 28 < needed) × (needed ≤ longest_log made))
  | others ↦ Unit {0}
])

-- ---- a fault of the disk

module _ {D : Type 0} {d : disk.Ghosts D} where
  -- a fault of the disk came before the commit, and nothing changed, whatever a crash leaves; or with the commit or after
  -- it: then all lines were printed, and no limit was met
  abbrev pub FaultIs : Run d → Bool → (State → Course) → Type 0
  FaultIs r anew course = r.why ≡ why.DiskFault
      → ((reopened_files (d.files r.left) ≡ reopened_files (d.files r.found))
      × (AreLawfulDatabases (images d r.found) → CrashLeaves d r.found r.left (IsLawfulAndSame (images d r.found)))
      × CrashLeaves d r.found r.left (ReopensAsOneOf (images d r.found)))
      ⊎ (Says (λ s. Through (course s).steps r.before r.after) (reopened_files (d.files r.found)).pkg
      × LimitsBy anew (IsLawfulDatabase (d.files r.found)) course (reopened_files (d.files r.found)) why.Done)
