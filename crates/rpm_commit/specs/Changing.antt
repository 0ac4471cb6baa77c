-- Commands that change packages: what each answers and leaves. A command is the course that it takes from the state
-- that it finds. On it rest `did` and `changed` of `changes`, and `empty`, on the page (`rpm_tool`, Theorem.antt).
use Rattle.std.specs.Prelude.{◌≡◌, ◌⊎◌, ℕ, ◌^◌, ◌≤◌, List, [], length, Bool, true, false, Some, None, is_some, Ok}
use Rattle.std.specs.Prelude.{Err, IfOk}
use Rattle.std.specs.Ordering.{nat_cmp}
use Rattle.std.specs.FinMap as finite
use Rattle.std.specs.FinMap.{FinMap}
use Rattle.rpm_outside.specs.declared.disk.Disk as disk
use Rattle.rpm_outside.specs.Changes.{AreDurable}
use Rattle.rpm_outside.specs.Files.{Units, Files}
use Rattle.rpm_outside.specs.Frame.{images, CrashLeaves}
use Rattle.rpm_outside.specs.Logs.{Malformed, log_state, reopened_files}
use Rattle.rpm_pkgdb.specs.Store.{KeepsStore, Store, store}
use Rattle.rpm_db.specs.Changes.{Says}
use Rattle.rpm_db.specs.Lawful.{IsWholeIndex, is_current_at}
use Rattle.rpm_db.specs.Openings.{units_needed}
use Rattle.rpm_db.specs.Database.{IsNext}
use Rattle.rpm_db.specs.State.{State, Package, state, packages}
use Rattle.rpm_hindex.specs.Rows.{Row}
use Rattle.rpm_db.specs.Refusals.{BadCause}
use Rattle.rpm_db.specs.declared.change_fault.ChangeFault.TheVariants as fault
use Rattle.rpm_change.specs.Limits.{next_stores}
use Rattle.rpm_effects.specs.Steps.{Course, apply_all}
use Rattle.rpm_effects.specs.Progress.{Anywhere, CountsFailed, Only, Outputs, Progress, Through}
use Rattle.rpm_effects.specs.declared.answer.Why.{Why}
use Rattle.rpm_effects.specs.declared.answer.Why.TheVariants as why
use Rattle.rpm_effects.specs.Answers.{Misread, RefusalIs}
use Rattle.rpm_effects.specs.Classes.{is_of_changing, is_done, is_done_or_fault, is_not_empty, is_of_lawful}
use Rattle.rpm_group.specs.Loads.{IsSound}
use Rattle.rpm_group.specs.Crashes.{KeepsLog, ReopensAsOneOf}
use Rattle.rpm_commit.specs.Lawful.{IsLawfulDatabase, AreLawfulDatabases, HasClosedIndex, MayBegin, IsLawfulAndSame}
use Rattle.rpm_commit.specs.Run.{Run}
use Rattle.rpm_commit.specs.Reaches.{ReachesBy, begun_store}

-- ---- what a command answers

-- a course went through all its steps, or some, or stopped within one, and this is the cause
abbrev pub ChangeProgress : Course → Why → Outputs → Outputs → Type 0
ChangeProgress course (why.NotEmpty held) old new = Through [] old new
ChangeProgress course given old new =
    Only (is_of_changing given) (CountsFailed course.failed given (Progress course.steps given old new Anywhere))

-- what a command does with the store that files represent: the log is read first, and where it is malformed, or else the
-- store is damaged, that alone is told
abbrev pub FilesAnswer : (Store → Type 0) → Files → Why → Outputs → Outputs → Type 0
FilesAnswer Does files given old new = elim (log_state files.log) [
  | Malformed unit ↦ Misread unit given × Through [] old new
  | others ↦ elim (store (reopened_files files).pkg) [
    | Ok s ↦ Does s
    | Err damage ↦ RefusalIs damage given × Through [] old new
  ]
]

-- ---- what it leaves

-- the files represent this state
abbrev pub HasState : State → Files → Type 0
HasState s files = Says (λ t. t ≡ s) (reopened_files files).pkg

-- the state after all changes of a course, which are one transaction
abbrev pub after : (State → Course) → State → State
after course s = apply_all (course s).changes s

-- done, the transaction is committed and counted; a fault of the disk may come before it or after it; else nothing
-- changed
abbrev pub LeavesState : (State → Course) → State → Why → ℕ → Files → Type 0
LeavesState course s why.Done n files = (n ≡ length (course s).changes) × HasState (after course s) files
LeavesState course s (why.Failed m) n files = (n ≡ length (course s).changes) × HasState (after course s) files
LeavesState course s why.DiskFault n files = (n ≡ 0) × (HasState s files ⊎ HasState (after course s) files)
LeavesState course s others n files = (n ≡ 0) × HasState s files

-- a database was made: its Packages.db isn't damaged, and has a slot page, which a blank one hasn't
pub record IsDatabaseMade (pkg : Units) : Type 0 where
  pub value : Store
  pub undamaged : store pkg ≡ Ok value
  pub paged : 1 ≤ value.pages

-- all changes of a course were made of what was found: the files have the state and the store after them, are no longer
-- than the changes make them, and are lawful where the command may begin
pub record HasChanges (anew : Bool) (Lawful : Type 0) (course : State → Course) (found files : Files) : Type 0 where
  pub value : Store
  pub undamaged : store found.pkg ≡ Ok value
  pub sound : IsSound (log_state files.log)
  pub has : HasState (after course (state found.pkg value)) files
  pub stored : (left : Store) × (next_stores (course (state found.pkg value)).changes (begun_store value) ≡ Some left)
      × KeepsStore (reopened_files files).pkg left
  pub reaches : ReachesBy anew Lawful course found (reopened_files files)
  pub lawful : MayBegin anew Lawful → IsLawfulDatabase files

-- the rows of the packages that files represent fit into an index
abbrev pub RowsFit : Files → Type 0
RowsFit files = units_needed (reopened_files files).pkg (store (reopened_files files).pkg) ≤ 2 ^ 28

-- each image has rows that fit into an index
abbrev pub AllRowsFit : (Files → Type 0) → Type 0
AllRowsFit images = (image : Files) → images image → RowsFit image

-- ---- refusals

-- a command that asks for no packages finds none, or is refused with the least number; what stops it before it looks
-- comes either way
abbrev pub EmptyIs : FinMap nat_cmp Package → Why → Type 0
EmptyIs packages (why.NotEmpty held) = IsNext (λ n. is_some (finite.get packages n)) 0 (Some held)
EmptyIs packages (why.BadLog unit) = Unit {0}
EmptyIs packages (why.Damaged damage) = Unit {0}
EmptyIs packages (why.IndexFull needed) = Unit {0}
EmptyIs packages why.DiskFault = Unit {0}
EmptyIs packages why.NoMemory = Unit {0}
EmptyIs packages others = IsNext (λ n. is_some (finite.get packages n)) 0 None

-- a command that asks for no packages is refused exactly where there is one, and another never so
abbrev pub EmptyBy : Bool → Files → Why → Type 0
EmptyBy true files given = IfOk (store files.pkg) (λ value. EmptyIs (packages files.pkg value) given)
EmptyBy false files given = is_not_empty given ≡ false

-- an index that is current, and isn't well formed as a whole
pub record HasBrokenIndex (pkg idx : Units) : Type 0 where
  pub value : Store
  pub undamaged : store pkg ≡ Ok value
  pub current : is_current_at value.generation idx ≡ true
  pub broken : ¬ IsWholeIndex idx

-- only a command that changes the index that it finds ever finds it bad, only where it is broken, and it names the
-- first fault of a chain, or unit 1, which counts too little
abbrev pub BadBy : Bool → Units → Units → Why → Type 0
BadBy changing pkg idx given = (unit : ℕ) → given ≡ why.BadIndex unit → (changing ≡ true) × HasBrokenIndex pkg idx
    × ((drops : List Row) × BadCause drops idx (fault.BadIndex unit))

-- ---- a command that changes packages

-- what a run leaves of a disk that tells its contents
pub record ChangesWith {D : Type 0} {d : disk.Ghosts D} (r : Run d) (anew changing : Bool)
    (course : State → Course) : Type 0 where
  pub counted : is_done r.why ≡ false → r.changes ≡ 0
  pub state_is : IfOk (store (reopened_files (d.files r.found)).pkg)
      (λ s. LeavesState course (state (reopened_files (d.files r.found)).pkg s) r.why r.changes (d.files r.left))
  pub refused : is_done_or_fault r.why ≡ false → reopened_files (d.files r.left) ≡ reopened_files (d.files r.found)
  pub made : is_done r.why ≡ true → IsDatabaseMade (reopened_files (d.files r.left)).pkg
  pub index : MayBegin anew (IsLawfulDatabase (d.files r.found)) → is_done r.why ≡ true
      → HasClosedIndex (d.files r.left)
  pub durable : is_done r.why ≡ true → AreDurable (d.files r.left) (images d r.left)
  pub lawful : MayBegin anew (IsLawfulDatabase (d.files r.found)) → is_done r.why ≡ true
      → AreLawfulDatabases (images d r.left)
  pub bad : BadBy changing (reopened_files (d.files r.found)).pkg (reopened_files (d.files r.found)).idx r.why
  pub complete : IsLawfulDatabase (d.files r.found) → is_of_lawful r.why ≡ true
  pub crashes : AreLawfulDatabases (images d r.found) → IfOk (store (reopened_files (d.files r.found)).pkg)
      (λ s. CrashLeaves d r.found r.left (λ image. IsLawfulAndSame (images d r.found) image
      ⊎ (IsLawfulDatabase image × HasState (after course (state (reopened_files (d.files r.found)).pkg s)) image)))
  pub unmade : is_done_or_fault r.why ≡ false → AreLawfulDatabases (images d r.found)
      → CrashLeaves d r.found r.left (IsLawfulAndSame (images d r.found))
  pub fits : AreLawfulDatabases (images d r.found) → AllRowsFit (images d r.found)
      → CrashLeaves d r.found r.left RowsFit
  pub held : is_done r.why ≡ true → IfOk (store (reopened_files (d.files r.found)).pkg)
      (λ s. (image : Files) → images d r.left image → HasState
      (after course (state (reopened_files (d.files r.found)).pkg s)) image)
  pub kept : KeepsLog (d.files r.found) (d.files r.left)
  pub next : is_done r.why ≡ true → HasChanges anew (IsLawfulDatabase (d.files r.found)) course
      (reopened_files (d.files r.found)) (d.files r.left)
  pub images : CrashLeaves d r.found r.left (λ image. ReopensAsOneOf (images d r.found) image
      ⊎ ((is_done_or_fault r.why ≡ true)
      × HasChanges anew (IsLawfulDatabase (d.files r.found)) course (reopened_files (d.files r.found)) image))
