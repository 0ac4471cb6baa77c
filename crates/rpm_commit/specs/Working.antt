-- What a changing command does on the disk over which its changes are held, and how the transaction ends. No field of
-- the page (`rpm_tool`, Theorem.antt) rests on it: so the functions below `run` say to each other what becomes
-- `changes` there.
use Rattle.rpm_db.specs.Database.{store_of}
use Rattle.std.specs.Prelude.{◌≡◌, ◌⊎◌, ℕ, ◌^◌, ◌<◌, ◌≤◌, ◌==◌, if◌then◌else◌, max, [], length, Bool, true, false}
use Rattle.std.specs.Prelude.{Result, Ok, Err, IfOk}
use Rattle.rpm_outside.specs.declared.disk.Disk as disk
use Rattle.rpm_outside.specs.Changes.{AreDurable}
use Rattle.rpm_outside.specs.Files.{Units, Files}
use Rattle.rpm_outside.specs.Frame.{images, CrashLeaves}
use Rattle.rpm_outside.specs.Logs.{Closed, log_state, without_log}
use Rattle.rpm_group.specs.Transactions.{BeforeOrAfter}
use Rattle.rpm_group.specs.Crashes.{ReopensAs}
use Rattle.rpm_pkgdb.specs.declared.slot.Damage.{Damage}
use Rattle.rpm_pkgdb.specs.Reaches.{store_end}
use Rattle.rpm_pkgdb.specs.Store.{Store, store}
use Rattle.rpm_db.specs.Database.{Database}
use Rattle.rpm_db.specs.Lawful.{IsLawful}
use Rattle.rpm_db.specs.Openings.{must_rebuild, units_needed}
use Rattle.rpm_db.specs.State.{State, state}
use Rattle.rpm_effects.specs.declared.tally.Halt.{Halt}
use Rattle.rpm_effects.specs.declared.tally.Tally.{Tally}
use Rattle.rpm_effects.specs.Steps.{Course}
use Rattle.rpm_effects.specs.Progress.{Outputs, Through, Done}
use Rattle.rpm_exercise.specs.declared.running.ExerciseFault.{ExerciseFault}
use Rattle.rpm_exercise.specs.declared.running.ExerciseFault.TheVariants.{NotEmpty, Halted}
use Rattle.rpm_effects.specs.declared.answer.Why.{Why}
use Rattle.rpm_effects.specs.declared.answer.Why.TheVariants as why
use Rattle.rpm_effects.specs.Answers.{RefusalIs}
use Rattle.rpm_effects.specs.Endings.{why_of_halt}
use Rattle.rpm_commit.specs.Changing.{ChangeProgress, BadBy, IsDatabaseMade}
use Rattle.rpm_commit.specs.Lawful.{HasUsableIndex, MayBegin}
use Rattle.rpm_effects.specs.Classes.{is_done, is_done_or_fault, IsUncommitted}
use Rattle.rpm_commit.specs.Reaches.{ReachesBy}
use Rattle.rpm_commit.specs.laws.Words.{StoresOn}

-- ---- opening

-- the state that is found, with room for an index that must be made; or why it isn't opened
abbrev pub OpensIn : Bool → ℕ → State → Files → Result Database Why → Type 0
OpensIn making needed s new (Ok db) = (state new.pkg (store_of db) ≡ s) × (making ≡ true → needed ≤ 2 ^ 28)
OpensIn making needed s new (Err (why.IndexFull told)) = (making ≡ true) × (2 ^ 28 < needed) × (told ≡ needed)
OpensIn making needed s new (Err why.DiskFault) = Unit {0}
OpensIn making needed s new (Err why.NoMemory) = Unit {0}
OpensIn making needed s new (Err others) = ⊥

-- a database is opened of these files, whose store is this
abbrev pub OpensBy : Files → Result Store Damage → Files → Result Database Why → Type 0
OpensBy old (Ok s) new result =
    OpensIn (must_rebuild old.idx (Ok s)) (units_needed old.pkg (Ok s)) (state old.pkg s) new result
OpensBy old (Err damage) new (Ok db) = ⊥
OpensBy old (Err damage) new (Err given) = RefusalIs damage given

-- no file is longer than what is found of this store, the store that is opened, or the index that may be made
pub record OpensWithin (old : Files) (value : Store) (db : Database) (new : Files) : Type 0 where
  pub pkg : length new.pkg ≤ max (length old.pkg) (store_end (store_of db))
  pub idx : length new.idx ≤ max (length old.idx) (units_needed old.pkg (Ok value))

-- the answer of a command for each fault of the exercise
abbrev pub why_of_exercise : ExerciseFault → Why
why_of_exercise (NotEmpty held) = why.NotEmpty held
why_of_exercise (Halted halt) = why_of_halt halt

-- how a command ended whose course did so
abbrev pub ended_as : Result Tally Halt → Result Tally Why
ended_as (Ok tally) = Ok tally
ended_as (Err halt) = Err (why_of_halt halt)

-- a command whose exercise ended ends like this
abbrev pub exercise_ended : Result Tally ExerciseFault → Result Tally Why
exercise_ended (Ok tally) = Ok tally
exercise_ended (Err fault) = Err (why_of_exercise fault)

-- ---- from the opening to the last change

-- stopped before its end; nothing was committed yet
abbrev pub UncommittedProgress : Course → Why → Outputs → Outputs → Type 0
UncommittedProgress course why.Done old new = ⊥
UncommittedProgress course (why.Failed n) old new = ⊥
UncommittedProgress course (why.LogFull units) old new = ⊥
UncommittedProgress course given old new = ChangeProgress course given old new

-- all was done, and these files have the state after it; or it was stopped
abbrev pub WorkOnStore : Course → State → Files → Result Tally Why → Outputs → Outputs → Type 0
WorkOnStore course s new (Ok tally) before now = (value : Store) × (store new.pkg ≡ Ok value)
    × Done course s (state new.pkg value) tally before now
WorkOnStore course s new (Err given) before now = UncommittedProgress course given before now

-- a damaged store is reported, on any other the course was worked as far as it was
abbrev pub WorkBy : (State → Course) → Units → Result Store Damage → Files → Result Tally Why → Outputs → Outputs
    → Type 0
WorkBy course pkg (Ok s) new ended before now = WorkOnStore (course (state pkg s)) (state pkg s) new ended before now
WorkBy course pkg (Err damage) new (Ok tally) before now = ⊥
WorkBy course pkg (Err damage) new (Err given) before now = RefusalIs damage given × Through [] before now

-- done, of which so many arguments failed
abbrev pub done_why : ℕ → Why
done_why n = if n == 0 then why.Done else why.Failed n

-- the answer of a command that changes, from how its work ended
abbrev pub why_of : Result Tally Why → Why
why_of (Ok tally) = done_why tally.failed
why_of (Err given) = given

-- a course worked from these files to those, of a command that makes the index anew or doesn't, and that changes the
-- one that it finds or doesn't
pub record Work (anew changing : Bool) (course : State → Course) (old new : Files) (ended : Result Tally Why)
    (before now : Outputs) : Type 0 where
  pub went : WorkBy course old.pkg (store old.pkg) new ended before now
  pub bad : BadBy changing old.pkg old.idx (why_of ended)
  pub made : IfOk ended (λ tally. IsDatabaseMade new.pkg)
  pub index : MayBegin anew (IsLawful old.pkg old.idx) → IfOk ended (λ tally. HasUsableIndex new.pkg new.idx)
  pub stored : IfOk ended (λ tally. StoresOn course old.pkg new.pkg)
  pub reached : IfOk ended (λ tally. ReachesBy anew (IsLawful old.pkg old.idx) course old new)

-- ---- how the transaction ends

-- the changes count where they are committed; a fault of the disk is want of memory where a write found none
abbrev pub TransactionCount : Result Tally Why → Why → ℕ → Type 0
TransactionCount (Ok tally) given changes = ((given ≡ done_why tally.failed) × (changes ≡ tally.changes))
    ⊎ ((changes ≡ 0) × IsUncommitted given)
TransactionCount (Err was) given changes = (changes ≡ 0)
    × ((given ≡ was) ⊎ ((was ≡ why.DiskFault) × (given ≡ why.NoMemory)))

-- what a crash leaves meanwhile: the files before, or those after a transaction whose changes were all made
abbrev pub TransactionImages : Result Tally Why → Files → Files → Files → Type 0
TransactionImages (Ok tally) before after = BeforeOrAfter before after
TransactionImages (Err given) before after = ReopensAs before

module _ {D : Type 0} (d : disk.Ghosts D) where
  -- a database is shut: its log is closed, and no crash from now on leaves other files
  pub record IsShut (it : D) : Type 0 where
    pub closed : log_state (d.files it).log ≡ Closed
    pub durable : AreDurable (d.files it) (images d it)

  -- the transaction that makes these files of the disk's
  pub record TransactionEnding (ended : Result Tally Why) (given : Why) (changes : ℕ) (after : Files)
      (old new : D) : Type 0 where
    pub says : TransactionCount ended given changes
    pub done : is_done given ≡ true → without_log (d.files new) ≡ after
    pub shut : is_done given ≡ true → IsShut new
    pub leaves : CrashLeaves d old new (TransactionImages ended (without_log (d.files old)) after)
    pub unmade : is_done_or_fault given ≡ false → CrashLeaves d old new (ReopensAs (without_log (d.files old)))
