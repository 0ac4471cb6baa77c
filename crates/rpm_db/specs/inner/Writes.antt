-- What the calls that write a change do, one file after the other.
use Rattle.std.specs.Prelude.{◌≡◌, ◌⊎◌, ℕ, ◌+◌, List, ◌∷◌, [], Option, Some, None}
use Rattle.std.specs.Prelude as lists
use Rattle.std.specs.Ordering.{nat_cmp}
use Rattle.std.specs.FinMap as finite
use Rattle.rpm_outside.specs.Files.{Units, unit_at, blank, with_units}
use Rattle.rpm_pkgdb.specs.Blobs.{blobs}
use Rattle.rpm_pkgdb.specs.Costs.{cost}
use Rattle.rpm_pkgdb.specs.Store.{Store, next_number}
use Rattle.rpm_pkgdb.specs.Quiet.{Represents, BlobMap}
use Rattle.rpm_pkgdb.specs.Written.{with_generation}
use Rattle.rpm_hindex.specs.declared.plan.Work.{Work}
use Rattle.rpm_hindex.specs.Images.{IsSealed}
use Rattle.rpm_hindex.specs.Index.{records}
use Rattle.rpm_hindex.specs.Plans.{file_after, buckets_after}
use Rattle.rpm_hindex.specs.Rows.{Row, SameRows}
use Rattle.rpm_hindex.specs.State.{seal_unit}
use Rattle.rpm_hindex.specs.Whole.{IsWellFormed}
use Rattle.rpm_db.specs.Rows.{rows_at}
use Rattle.rpm_db.specs.State.{State, Package, package_of}

-- the packages of these blobs
abbrev pub packages_of : BlobMap → finite.FinMap nat_cmp Package
packages_of blobs = finite.from_entries (lists.map (λ e. (e.0, package_of e.1)) (finite.entries blobs))

abbrev pub state_with : finite.FinMap nat_cmp Package → ℕ → State
state_with packages field = record { packages = packages; field = field }

abbrev pub state_of : BlobMap → ℕ → State
state_of blobs field = state_with (packages_of blobs) field

-- a store's blobs change after a raise of its generation: an image has those before, with the number field before or
-- after, or those after
abbrev pub BlobsTo : ℕ → ℕ → ℕ → BlobMap → BlobMap → Units → Type 0
BlobsTo generation field next before after image =
    Represents generation field before image
    ⊎ (Represents (generation + 1) field before image
    ⊎ (Represents (generation + 1) next before image ⊎ Represents (generation + 1) next after image))

-- the index once a change of this file was written and sealed
abbrev pub sealed_after : ℕ → Work → Units → Units
sealed_after generation work file = with_units 0 (seal_unit generation (buckets_after work) ∷ []) (file_after work file)

-- an index is sealed with the records that were written, where these are a well formed index
pub record IsSealedAfter (generation : ℕ) (work : Work) (file image : Units) : Type 0 where
  pub is : image ≡ sealed_after generation work file
  pub sealed : IsWellFormed (buckets_after work) (file_after work file)
      → IsSealed generation (buckets_after work) (file_after work file) image

-- an index changes: it has no seal or the one from before, until it has the new one
abbrev pub IndexTo : ℕ → Work → Units → Units → Units → Type 0
IndexTo generation work file from image =
    (unit_at image 0 ≡ blank) ⊎ ((unit_at image 0 ≡ unit_at from 0) ⊎ IsSealedAfter generation work file image)

-- writing this to an index makes a well formed one
abbrev pub WritesWhole : Work → Units → Type 0
WritesWhole work file = IsWellFormed (buckets_after work) (file_after work file)

-- writing this to an index makes a well formed one of these rows
pub record WritesRows (rows : List Row) (work : Work) (file : Units) : Type 0 where
  pub whole : WritesWhole work file
  pub same : SameRows rows (records (buckets_after work) (file_after work file))

-- the rows of a number that is there, and none for a new number
abbrev pub old_rows : Option ℕ → finite.FinMap nat_cmp Package → List Row
old_rows None packages = []
old_rows (Some n) packages = rows_at n (finite.get packages n)

-- what reading its package costs
abbrev pub cost_before : Option ℕ → Store → ℕ
cost_before None value = 0
cost_before (Some n) value = cost n value

-- the number that a header goes under
abbrev pub number_for : Option ℕ → Store → ℕ
number_for None value = next_number value
number_for (Some n) value = n

-- a change leaves this number field
abbrev pub field_for : Option ℕ → Store → ℕ
field_for None value = next_number value + 1
field_for (Some n) value = value.field

-- the blobs after it, with this blob under that number
abbrev pub put_map : Units → Store → Option ℕ → List ℕ → BlobMap
put_map file value n blob = finite.insert (blobs file value) (number_for n value) (Some blob)

-- A store with the same slots under the next generation.
abbrev pub raised_store : Store → Store
raised_store value = with_generation (value.generation + 1) value
