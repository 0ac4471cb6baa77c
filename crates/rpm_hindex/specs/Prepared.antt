-- A change of the index that is worked out, as one thing: what its plan makes, and what a fault tells.
use Rattle.std.specs.Prelude.{ℕ, ◌≤◌, List, IsTrue}
use Rattle.rpm_outside.specs.declared.disk.Disk as disk
use Rattle.rpm_outside.specs.Files.{Units}
use Rattle.rpm_hindex.specs.declared.faults.PrepareFault.{PrepareFault}
use Rattle.rpm_hindex.specs.declared.plan.Work.{Work}
use Rattle.rpm_hindex.specs.Rows.{Row}
use Rattle.rpm_hindex.specs.Index.{records}
use Rattle.rpm_hindex.specs.Plans.{LeavesOrder, IsPlanFor, IsPaddedPlan, IsSizedFor, ReachesFor, reach_with}
use Rattle.rpm_hindex.specs.Plans.{second_after}
use Rattle.rpm_hindex.specs.Plans.{units_after}
use Rattle.rpm_hindex.specs.Refusals.{IsBad, IsBadFor, IsTooLargeFor, HasUnitsFor}
use Rattle.rpm_hindex.specs.State.{IndexState, EndsInZero, buckets_of}
use Rattle.rpm_hindex.specs.Whole.{IsWellFormed}

-- written to a well-formed file of so many buckets and units, this makes the change
pub record MakesChange (drops adds : List Row) (buckets units : ℕ) (file : Units) (work : Work)
    : Type 0 where
  pub makes : IsPlanFor drops adds buckets file work
  pub padded : IsPaddedPlan buckets file work
  pub size : IsSizedFor drops adds (records buckets file) work
  pub reach : ReachesFor drops adds (records buckets file) units work
  pub room : HasUnitsFor drops adds (records buckets file)

module _ {D : Type 0} (d : disk.Ghosts D) where
  -- a plan leaves unit 1 in order, reaches no further than the rows that the file has and those that are added,
  -- whatever the file is, and makes the change of it where that is well formed
  pub record IsPrepared (at : D) (index : IndexState) (drops adds : List Row) (work : Work) : Type 0 where
    pub ordered : LeavesOrder work
    pub zero : EndsInZero (second_after work)
    pub grows : IsTrue d.tells
        → units_after work ≤ reach_with adds (records (buckets_of index.first) (d.files at).idx) index.units
    pub change : IsTrue d.tells → IsWellFormed (buckets_of index.first) (d.files at).idx
        → MakesChange drops adds (buckets_of index.first) index.units (d.files at).idx work

  -- the index is full where the rows after the change are too many, and a unit that is named has a fault
  pub record IsUnprepared (at : D) (index : IndexState) (drops adds : List Row) (fault : PrepareFault)
      : Type 0 where
    pub full : IsTrue d.tells → IsWellFormed (buckets_of index.first) (d.files at).idx
        → IsTooLargeFor drops adds (records (buckets_of index.first) (d.files at).idx) fault
    pub bad : IsTrue d.tells → IsBad (buckets_of index.first) (d.files at).idx fault
    pub counts : IsTrue d.tells → IsBadFor drops (buckets_of index.first) (d.files at).idx fault
