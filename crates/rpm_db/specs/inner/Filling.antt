-- The store that is changed alone, while the rows that change with it are gathered; and the index once it has what it
-- is owed.
use Rattle.std.specs.Prelude.{◌≡◌, ℕ, ◌+◌, ◌≤◌, ◌==◌, if◌then◌else◌, max, Bool, length, true, false, IsTrue, IsSome}
use Rattle.std.specs.Prelude.{IfSome}
use Rattle.std.specs.Prelude.{Option, Result}
use Rattle.std.specs.Ordering.{nat_cmp}
use Rattle.std.specs.FinMap.{FinMap}
use Rattle.rpm_outside.specs.declared.disk.Disk as disk
use Rattle.rpm_outside.specs.declared.disk.File.TheVariants.{Idx}
use Rattle.rpm_outside.specs.Changes.{IsDurable}
use Rattle.rpm_outside.specs.Files.{Files}
use Rattle.rpm_pkgdb.specs.Store.{KeepsStore, Store}
use Rattle.rpm_hindex.specs.declared.plan.IndexPlan.{IndexPlan}
use Rattle.rpm_hindex.specs.declared.plan.Work.{Work}
use Rattle.rpm_hindex.specs.Sizes.{live_of, units_for}
use Rattle.rpm_hindex.specs.State as hindex
use Rattle.rpm_db.specs.declared.change_fault.ChangeFault.{ChangeFault}
use Rattle.rpm_db.specs.declared.netting.RowChange.{RowChange}
use Rattle.rpm_db.specs.Gathering.{Balances, no_row_changes}
use Rattle.rpm_db.specs.Lawful.{HasRows, IsOfRows, IsWholeIndex}
use Rattle.rpm_db.specs.Reaches.{Gains}
use Rattle.rpm_db.specs.Refusals.{BadIndexIs, FullIndexIs}
use Rattle.rpm_db.specs.Rows.{rows}
use Rattle.rpm_db.specs.State.{Package}
use Rattle.rpm_db.specs.inner.Both.{CanApply, IsStoreWritten, LeadsTo}
use Rattle.rpm_db.specs.inner.Writes.{WritesWhole}
use Rattle.rpm_pkgdb.specs.Quiet.{BlobMap, IsQuiet}

-- the Packages.db of each of these images has this generation and the rows of these packages
abbrev pub AreOfRows : ℕ → FinMap nat_cmp Package → (Files → Type 0) → Type 0
AreOfRows generation packages images = (image : Files) → images image → IsOfRows generation (rows packages) image.pkg

module _ {D : Type 0} (d : disk.Ghosts D) where
  -- a store can be changed alone: a crash leaves the same packages, and the index is durable
  pub record CanPutAside (at : D) (value : Store) : Type 0 where
    pub going : value.is_stopped ≡ false
    pub made : 1 ≤ value.pages
    pub keeps : IsTrue d.tells → KeepsStore (d.files at).pkg value
    pub quiet : IsTrue d.tells → IsQuiet value (d.files at) (d.left_since at (d.moment at))
    pub durable : IsTrue d.tells → IsDurable Idx (d.files at) (d.left_since at (d.moment at))

  -- an index that can get what it is owed, to be sealed at this generation; where it is sealed there it is owed nothing
  pub record CanFill (at : D) (index : hindex.IndexState) (generation : ℕ) (owed : RowChange) : Type 0 where
    pub order : hindex.is_in_order index ≡ true
    pub clear : hindex.sealed_generation index.first ≡ generation → owed ≡ no_row_changes
    pub keeps : IsTrue d.tells → hindex.KeepsIndexValue (d.files at).idx index
    pub durable : IsTrue d.tells → IsDurable Idx (d.files at) (d.left_since at (d.moment at))

  -- once it has what it is owed the index is full exactly where so many units are too many, where these may be so many,
  -- and bad only where it has a fault, or counts less than it is to drop
  pub record TakesRows {A : Type 0} (at : D) (owed : RowChange) (MayBe : ℕ → Type 0) (result : Result A ChangeFault)
      : Type 0 where
    pub full : IsTrue d.tells → (before after : FinMap nat_cmp Package) → HasRows before (d.files at).idx
        → Balances owed (rows before) (rows after) → MayBe (units_for (rows after))
        → FullIndexIs (units_for (rows after)) result
    pub bad : IsTrue d.tells → BadIndexIs owed.drops (d.files at).idx result

  -- a work that is to be written to an index drops and adds what the index is owed
  pub record IsIndexPlanned (at : D) (index : hindex.IndexState) (owed : RowChange) (work : Work) : Type 0 where
    pub can : CanApply index.units work
    pub leads : (before after : FinMap nat_cmp Package) → Balances owed (rows before) (rows after)
        → LeadsTo d at index.units before after owed.adds work
    pub whole : IsTrue d.tells → IsWholeIndex (d.files at).idx → WritesWhole work (d.files at).idx

  -- what is to be written to an index for what it is owed is known, at least where that is asked ahead
  pub record IsForeseen (at : D) (index : hindex.IndexState) (owed : RowChange) (ahead : Bool)
      (plan : Option IndexPlan) : Type 0 where
    pub known : ahead ≡ true → IsSome plan
    pub is : IfSome plan (λ p. IsIndexPlanned at index owed p.work)

  -- the store was changed alone: it has these blobs and this number field, and the next generation
  pub record IsPutAside (new : D) (before after : Store) (to : BlobMap) (field : ℕ) : Type 0 where
    pub going : after.is_stopped ≡ false
    pub made : 1 ≤ after.pages
    pub generation_is : after.generation ≡ before.generation + 1
    pub field_is : after.field ≡ field
    pub stored : IsStoreWritten d new after to
    pub durable : IsTrue d.tells → IsDurable Idx (d.files new) (d.left_since new (d.moment new))

  -- the index has the rows that it was owed, and is sealed at this generation
  pub record IsFilled (old new : D) (before after : hindex.IndexState) (generation : ℕ)
      (owed : RowChange) : Type 0 where
    pub current : hindex.is_current generation after ≡ true
    pub kept : IsTrue d.tells → hindex.KeepsIndexValue (d.files new).idx after
    pub durable : IsTrue d.tells → IsDurable Idx (d.files new) (d.left_since new (d.moment new))
    pub quiet : IsTrue d.tells → (value : Store) → IsQuiet value (d.files old) (d.left_since old (d.moment old))
        → IsQuiet value (d.files new) (d.left_since new (d.moment new))
    pub rows_are : IsTrue d.tells → (from to : FinMap nat_cmp Package) → HasRows from (d.files old).idx
        → Balances owed (rows from) (rows to) → HasRows to (d.files new).idx
    pub grows : IsTrue d.tells → Gains owed.adds (d.files old).idx (d.files new).idx
    pub reach : IsTrue d.tells → (from to : FinMap nat_cmp Package) → HasRows from (d.files old).idx
        → Balances owed (rows from) (rows to) → length (d.files new).idx ≤ (if hindex.sealed_generation before.first == generation
        then length (d.files old).idx else max (length (d.files old).idx + live_of owed.adds) (units_for (rows to)))
