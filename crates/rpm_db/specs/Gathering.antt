-- A batch of changes of a database: each changes the store at its turn, and the index gets the rows of all at once.
use Rattle.std.specs.Prelude.{◌≡◌, ◌≢◌, ℕ, ◌+◌, ◌^◌, ◌≤◌, max, List, [], ◌++◌, length, replicate, true, false, ◌==◌}
use Rattle.std.specs.Prelude.{if◌then◌else◌, IsTrue, Option, Some, None, Result, OnOk, OnErr, IfErr}
use Rattle.std.specs.Ordering.{nat_cmp}
use Rattle.std.specs.FinMap.{FinMap}
use Rattle.rpm_outside.specs.declared.disk.Disk as disk
use Rattle.rpm_outside.specs.Files.{Units, Files, blank}
use Rattle.rpm_hindex.specs.Rows.{Row, times}
use Rattle.rpm_hindex.specs.Sizes.{live_of, units_for}
use Rattle.rpm_hindex.specs.State as hindex
use Rattle.rpm_db.specs.declared.change_fault.ChangeFault.{ChangeFault}
use Rattle.rpm_db.specs.declared.netting.RowChange.{RowChange}
use Rattle.rpm_db.specs.Changes.{Change, IsServing, apply, changed_number}
use Rattle.rpm_db.specs.Database.{Database, IsIndexed, database_of, generation_of, has_failed, is_indexed, store_of}
use Rattle.rpm_db.specs.Frame.{Runs, StaysBetween, state_in}
use Rattle.rpm_db.specs.Lawful.{HasRows}
use Rattle.rpm_db.specs.Reaches.{Gains, Reaches, added_rows, dropped_rows, units_needed_after}
use Rattle.rpm_db.specs.Refusals.{BadIndexIs, FullIndexIs, IsRefusal}
use Rattle.rpm_db.specs.Room.{RoomIs, next_store}
use Rattle.rpm_db.specs.Rows.{rows}
use Rattle.rpm_db.specs.State.{Package, packages, state}
use Rattle.rpm_db.specs.Runs.{SameFiles}
use Rattle.rpm_db.specs.Verdicts.{KeepsVerdicts}

-- the generation at which an index is sealed
abbrev pub sealed_in : Option hindex.IndexState → ℕ
sealed_in None = 0
sealed_in (Some index) = hindex.sealed_generation index.first

-- an index that is kept has its first two units in order
abbrev pub IsOrdered : Option hindex.IndexState → Type 0
IsOrdered None = Unit {0}
IsOrdered (Some index) = hindex.is_in_order index ≡ true

-- a value as it answers once the batch is over
abbrev pub resumed_database : Database → Database
resumed_database db = database_of (store_of db) db.index false

-- a database while a batch goes on
abbrev pub suspended_database : Database → Database
suspended_database db = database_of (store_of db) db.index true

-- an index that is owed nothing
abbrev pub no_row_changes : RowChange
no_row_changes = record { drops = []; adds = [] }

-- a change of rows with the rows of one more change
abbrev pub with_rows : RowChange → List Row → List Row → RowChange
with_rows owed drops adds = record { drops = owed.drops ++ drops; adds = owed.adds ++ adds }

-- row by row the new rows and those that are to be dropped are the old rows and those that are to be added: a row that
-- a batch adds and drops again stands on both sides
abbrev pub Balances : RowChange → List Row → List Row → Type 0
Balances owed old new = (row : Row) → times row new + times row owed.drops ≡ times row old + times row owed.adds

-- the index holds the rows of some packages, and once it drops and adds what it is owed it holds the rows of the
-- packages of now; there is room for these
pub record Owes (pkg idx : Units) (db : Database) (owed : RowChange) : Type 0 where
  pub from : FinMap nat_cmp Package
  pub has : HasRows from idx
  pub balances : Balances owed (rows from) (rows (packages pkg (store_of db)))
  pub fits : sealed_in db.index ≢ generation_of db → units_for (rows (packages pkg (store_of db))) ≤ 2 ^ 28

-- the units of Hindex.db once it has them
abbrev pub due_units : Units → Units → Database → RowChange → ℕ
due_units pkg idx db owed =
    if sealed_in db.index == generation_of db then length idx
    else max (length idx + live_of owed.adds) (units_for (rows (packages pkg (store_of db))))

-- files as long as these are then
abbrev pub due : Files → Database → RowChange → Files
due files db owed =
    record { pkg = files.pkg; idx = replicate (due_units files.pkg files.idx db owed) blank; log = files.log }

module _ {D : Type 0} (d : disk.Ghosts D) where
  -- a batch goes on: the store and the index are what the files say, and the index is sealed at the store's generation
  -- only where it is owed nothing
  pub record IsGathering (at : D) (db : Database) (owed : RowChange) : Type 0 where
    pub indexed : is_indexed db ≡ true
    pub suspends : db.stopped ≡ true
    pub going : has_failed db ≡ false
    pub ordered : IsOrdered db.index
    pub behind : sealed_in db.index ≤ generation_of db
    pub clear : sealed_in db.index ≡ generation_of db → owed ≡ no_row_changes
    pub serving : IsTrue d.tells → IsServing (d.files at) (d.left_since at (d.moment at)) db

  -- the rows of these files and packages are owed
  abbrev pub OwesOn : D → Database → RowChange → Type 0
  OwesOn at db owed = Owes (d.files at).pkg (d.files at).idx db owed

  -- a change was made in the store, and its rows were gathered
  pub record GatheredChange (old new : D) (change : Change) (before after : Database)
      (owed more : RowChange) : Type 0 where
    pub gathering : IsGathering new after more
    pub generation : generation_of after ≡ generation_of before + 1
    pub state_is : IsTrue d.tells
        → state (d.files new).pkg (store_of after) ≡ apply change (state (d.files old).pkg (store_of before))
    pub verdicts : IsTrue d.tells → KeepsVerdicts (changed_number change (state_in d old before)) (d.files old).pkg
        (d.files new).pkg before after
    pub rows : IsTrue d.tells
        → more ≡ with_rows owed (dropped_rows (state_in d old before) change)
        (added_rows (state_in d old before) change)
    pub owes : IsTrue d.tells → OwesOn old before owed → OwesOn new after more
    pub reach : IsTrue d.tells → OwesOn old before owed → Reaches (state (d.files old).pkg (store_of before)) change
        (due (d.files old) before owed).idx (due (d.files new) after more).idx

  -- a change of a batch by its answer: whether it found room in both files, what it made, and what crashes leave
  -- meanwhile
  pub record Gathers {A : Type 0} (old new : D) (change : Change) (before after : Database) (owed more : RowChange)
      (result : Result A ChangeFault) : Type 0 where
    pub room : RoomIs (next_store change (store_of before)) (store_of before) (store_of after) result
    pub gathered : OnOk result (GatheredChange old new change before after owed more)
    pub full : IsTrue d.tells → OwesOn old before owed
        → FullIndexIs (units_needed_after (state_in d old before) change) result
    pub crashes : StaysBetween d old new change before

  -- what is left of a value: after an error it takes no change; after a refusal it is this one, and nothing was written
  -- or synced; the index is bad only where it has a fault, or these rows, which it is to drop, are more than it counts
  pub record IsLeftSuspended {A : Type 0} (old new : D) (after refused_as : Database) (drops : List Row)
      (result : Result A ChangeFault) : Type 0 where
    pub indexed : is_indexed after ≡ true
    pub stopped : OnErr result (after.stopped ≡ true)
    pub refused : IfErr result (λ e. IsRefusal e → after ≡ refused_as)
    pub same : IfErr result (λ e. IsRefusal e → Runs d SameFiles old new)
    pub moment : IfErr result (λ e. IsRefusal e → d.moment new ≡ d.moment old)
    pub bad : IsTrue d.tells → BadIndexIs drops (d.files old).idx result

  -- the batch is over: the index has what it was owed
  pub record HasItsRows (old new : D) (before after : Database) (owed : RowChange) : Type 0 where
    pub going : after.stopped ≡ false
    pub serving : IsTrue d.tells → IsServing (d.files new) (d.left_since new (d.moment new)) after
    pub index : IsTrue d.tells → OwesOn old before owed → IsIndexed (d.files new).pkg (d.files new).idx after
    pub grows : IsTrue d.tells → Gains owed.adds (d.files old).idx (d.files new).idx
    pub reach : IsTrue d.tells → OwesOn old before owed
        → length (d.files new).idx ≤ due_units (d.files old).pkg (d.files old).idx before owed
