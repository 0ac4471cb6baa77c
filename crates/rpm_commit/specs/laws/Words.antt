-- Parts of what a command that changes packages answers and leaves, as proofs and functions below the page name them.
use Rattle.std.specs.Prelude.{◌≡◌, ◌⊎◌, ℕ, ◌^◌, ◌<◌, ◌≤◌, List, [], Bool, true, false, Option, Some}
use Rattle.std.specs.Prelude.{Result, Ok, Err, IfOk, ◌||◌, if◌then◌else◌}
use Rattle.rpm_outside.specs.Files.{Files, Units}
use Rattle.rpm_outside.specs.Logs.{LogState, Malformed, log_state, reopened_files}
use Rattle.rpm_pkgdb.specs.declared.slot.Damage.{Damage}
use Rattle.rpm_pkgdb.specs.Store.{KeepsStore, Store, store}
use Rattle.rpm_group.specs.Transactions.{longest_log}
use Rattle.rpm_group.specs.Crashes.{ReopensAsOneOf}
use Rattle.rpm_db.specs.Changes.{Change, Says}
use Rattle.rpm_db.specs.Openings.{must_rebuild}
use Rattle.rpm_db.specs.State.{State, packages, state}
use Rattle.rpm_effects.specs.declared.tally.Halt.{Halt}
use Rattle.rpm_effects.specs.declared.answer.Why.{Why}
use Rattle.rpm_effects.specs.declared.answer.Why.TheVariants as why
use Rattle.rpm_effects.specs.Answers.{Misread, RefusalIs}
use Rattle.rpm_effects.specs.Classes.{is_done_or_fault}
use Rattle.rpm_effects.specs.Progress.{Outputs, Through}
use Rattle.rpm_effects.specs.Steps.{Course}
use Rattle.rpm_change.specs.Limits.{limit_of_changes, limit_of_command, next_stores}
use Rattle.rpm_commit.specs.Changing.{after, ChangeProgress, EmptyIs, HasState}
use Rattle.rpm_commit.specs.Lawful.{IsLawfulAndSame, IsLawfulDatabase}
use Rattle.rpm_commit.specs.Limits.{MeetsFirst}
use Rattle.rpm_commit.specs.Reaches.{LengthsOn, begun_store}

-- ---- what is answered

-- what a command does with a store
abbrev pub StoreAnswerBy : Type 1
StoreAnswerBy = Store → Why → Outputs → Outputs → Type 0

-- a damaged store is reported and nothing is printed
abbrev pub StoreAnswer : StoreAnswerBy → Result Store Damage → Why → Outputs → Outputs → Type 0
StoreAnswer Do r given old new =
    elim r [ Ok s ↦ Do s given old new | Err damage ↦ RefusalIs damage given × Through [] old new ]

-- a malformed log is reported and nothing is printed, with any other the store is opened
abbrev pub LogAnswer : StoreAnswerBy → Result Store Damage → LogState → Why → Outputs → Outputs → Type 0
LogAnswer Do s log given old new = elim log [
  | Malformed unit ↦ Misread unit given × Through [] old new
  | others ↦ StoreAnswer Do s given old new
]

-- a course was done of a store that isn't damaged, and of one that is the damage alone was told
abbrev pub ChangeProgressOnStore : (Store → Course) → Result Store Damage → Why → Outputs → Outputs → Type 0
ChangeProgressOnStore course = StoreAnswer (λ s. ChangeProgress (course s))

-- the log is read first
abbrev pub ChangeProgressOnLog : (Store → Course) → Result Store Damage → LogState → Why → Outputs → Outputs → Type 0
ChangeProgressOnLog course = LogAnswer (λ s. ChangeProgress (course s))

-- a course was done of what the files represent
abbrev pub ChangeProgressOn : (State → Course) → Files → Why → Outputs → Outputs → Type 0
ChangeProgressOn course files given old new =
    let r = reopened_files files in
    ChangeProgressOnLog (λ s. course (state r.pkg s)) (store r.pkg) (log_state files.log) given old new

-- ---- what is left

-- an image represents what one of these represents, or has all changes of a command that was done or whose disk failed
abbrev pub IsAllOrNone : (Files → Type 0) → Why → (Files → Type 0) → Files → Type 0
IsAllOrNone images given Changed image = ReopensAsOneOf images image ⊎ ((is_done_or_fault given ≡ true) × Changed image)

-- a lawful image, which represents the packages that one of these represents, or this state
abbrev pub IsLawfulAndSameOr : (Files → Type 0) → State → Files → Type 0
IsLawfulAndSameOr images s image = IsLawfulAndSame images image ⊎ (IsLawfulDatabase image × HasState s image)

-- Packages.db holds the store that these changes make of another: its generation, slot pages, number field and slots
abbrev pub HasStore : Store → List Change → Units → Type 0
HasStore value changes pkg = (left : Store) × (next_stores changes value ≡ Some left) × KeepsStore pkg left

-- Packages.db holds the store that the changes of a course make of the one that another holds, unless that one is
-- damaged
abbrev pub StoresOn : (State → Course) → Units → Units → Type 0
StoresOn course old new =
    IfOk (store old) (λ value. HasStore (begun_store value) (course (state old value)).changes new)

-- no file is longer than the changes of a course make it, unless Packages.db was damaged
abbrev pub ReachesOn : Bool → (State → Course) → Files → Files → Type 0
ReachesOn indexed course files made =
    IfOk (store files.pkg) (λ value. LengthsOn indexed files.pkg files.idx value (state files.pkg value)
    (course (state files.pkg value)).changes made)

-- ---- what is refused

-- a command that asks for a database without packages is refused exactly where there is one
abbrev pub EmptyOn : Files → Why → Type 0
EmptyOn files given = IfOk (store files.pkg) (λ value. EmptyIs (packages files.pkg value) given)

-- the index is made where it isn't current; anew, whatever it is
abbrev pub is_rebuilt : Bool → Units → Store → Bool
is_rebuilt anew idx value = anew || must_rebuild idx (Ok value)

-- what a command is refused for first: an index that has no room, where one is made before the changes, and then what
-- refuses the first change that is refused; where the index isn't asked, only what comes before it in a change
abbrev pub command_limit : Bool → Bool → State → Store → List Change → Option Halt
command_limit indexed made s value changes =
    if indexed then limit_of_command made s value changes else limit_of_changes false s value changes

-- a course meets its first limit, on files whose Packages.db isn't damaged, of a command that makes the index anew or
-- doesn't
abbrev pub LimitsOn : Bool → Bool → (State → Course) → Files → Why → Type 0
LimitsOn indexed anew course files given = IfOk (store files.pkg) (λ value. MeetsFirst indexed
    (command_limit indexed (is_rebuilt anew files.idx value) (state files.pkg value) (begun_store value)
    (course (state files.pkg value)).changes) given)

-- a transaction is too long for the log: some files with this state that reach no further have so long a log
abbrev pub IsTransactionTooLong : ℕ → State → (Files → Type 0) → Type 0
IsTransactionTooLong needed s Reached = (made : Files) × Says (λ t. t ≡ s) made.pkg × Reached made × (2 ^ 28 < needed)
    × (needed ≤ longest_log made)

-- a course has LogFull told only where its transaction is too long, on files whose Packages.db isn't damaged
abbrev pub LogOn : Bool → (State → Course) → Files → Why → Type 0
LogOn indexed course files (why.LogFull needed) =
    IfOk (store files.pkg) (λ value. IsTransactionTooLong needed (after course (state files.pkg value))
    (LengthsOn indexed files.pkg files.idx value (state files.pkg value) (course (state files.pkg value)).changes))
LogOn indexed course files others = Unit {0}

-- ---- what is asked
