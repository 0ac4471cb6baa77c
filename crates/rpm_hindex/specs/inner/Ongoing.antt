-- What a step of a change that is being worked out keeps and makes.
use Rattle.std.specs.Prelude.{◌≡◌, ℕ, ◌+◌, ◌/◌, List, [], ◌∷◌, length, Bool, Option, IsTrue}
use Rattle.rpm_outside.specs.declared.disk.Disk as disk
use Rattle.rpm_outside.specs.Files.{Units}
use Rattle.rpm_hindex.specs.declared.chain.Extent.{Extent}
use Rattle.rpm_hindex.specs.declared.change.Change.{Change}
use Rattle.rpm_hindex.specs.declared.faults.PrepareFault.{PrepareFault}
use Rattle.rpm_hindex.specs.declared.plan.Work.{Work}
use Rattle.rpm_hindex.specs.declared.row_search.Start.{Start}
use Rattle.rpm_hindex.specs.Rows.{Row}
use Rattle.rpm_hindex.specs.Index.{Index, index_in}
use Rattle.rpm_hindex.specs.Plans.{CanWrite, LeavesOrder, second_after}
use Rattle.rpm_hindex.specs.State.{EndsInZero}
use Rattle.rpm_hindex.specs.Whole.{IsWhole, IsWellFormed}
use Rattle.rpm_hindex.specs.inner.Changes.{CanGo, AddsRows, IsWithoutDropped, IsHonest, IsBadSoFar, HasNoFault, HasGone}
use Rattle.rpm_hindex.specs.inner.Changes.{IsShort, HasLess, index_after, kept_in}
use Rattle.rpm_hindex.specs.inner.Starts.{AreStarts, StandWithin}

-- the change can go on, with as many buckets, and the same records after all others
pub record IsOngoing (old new : Change) : Type 0 where
  pub go : CanGo new
  pub extent : new.extent ≡ old.extent
  pub tail : new.tail ≡ old.tail

-- the change can go on, with as many buckets, and with so many records of so many units more
pub record Grows (old new : Change) (count units : ℕ) : Type 0 where
  pub go : CanGo new
  pub extent : new.extent ≡ old.extent
  pub tail : length new.tail.items / 16 ≡ length old.tail.items / 16 + units
  pub records : new.records ≡ old.records + count
  pub live : new.live ≡ old.live + units

-- the row of these parts
abbrev pub row_with : ℕ → List ℕ → ℕ → ℕ → Row
row_with kind key number place = record { kind = kind; key = key; number = number; place = place }

-- a list of one row alone
abbrev pub one_row : ℕ → List ℕ → ℕ → ℕ → List Row
one_row kind key number place = row_with kind key number place ∷ []

-- the index of the file that a change is of
abbrev pub index_of_change : Change → Units → Index
index_of_change c file = index_in c.extent.buckets file

-- a step dropped these rows of a file, as far as the change kept them
pub record DropsRows (file : Units) (drops : List Row) (old new : Change) : Type 0 where
  pub less : IsWellFormed old.extent.buckets file
      → HasLess drops (kept_in (index_of_change old file) old) (kept_in (index_of_change old file) new)
  pub cuts : IsWellFormed old.extent.buckets file → length old.tail.items ≡ 0
      → IsWithoutDropped old file → IsWithoutDropped new file
  pub honest : IsHonest old file → IsHonest new file
  pub gone : HasNoFault (index_of_change old file) → HasGone drops old new (index_of_change old file)

-- a fault of a step that drops these rows: a unit that it names has a chain's fault, or is unit 1,
-- which counts too little
pub record IsDropFault (file : Units) (drops : List Row) (old : Change) (fault : PrepareFault)
    : Type 0 where
  pub short : HasNoFault (index_of_change old file) → IsShort drops old (index_of_change old file) fault
  pub bad : IsHonest old file → IsBadSoFar old.extent.buckets file fault

-- a step added these rows to a file
pub record HasAdded (file : Units) (adds : List Row) (old new : Change) : Type 0 where
  pub rows : IsWhole old.records old.live (index_after old file) → AddsRows old new file adds
  pub honest : IsHonest old file → IsHonest new file

-- what is written can be written to each file, and leaves unit 1 in order
pub record LeavesWhole (work : Work) : Type 0 where
  pub can : (units : ℕ) → CanWrite units work
  pub ordered : LeavesOrder work
  pub zero : EndsInZero (second_after work)

module _ {D : Type 0} (d : disk.Ghosts D) where
  -- each start stands among the records, and is one of its bucket's chain
  pub record CanStart (at : D) (extent : Extent) (kept : ℕ → Bool) (starts : ℕ → Option Start)
      : Type 0 where
    pub stand : StandWithin extent.buckets extent.used starts
    pub chained : IsTrue d.tells → AreStarts (index_in extent.buckets (d.files at).idx) kept starts
