-- What making an index from scratch answers.
use Rattle.std.specs.Prelude.{◌≡◌, ℕ, ◌^◌, ◌<◌, ◌≤◌, List, length, Result, Ok, Err}
use Rattle.rpm_outside.specs.Files.{blank}
use Rattle.rpm_hindex.specs.declared.faults.RewriteFault.{RewriteFault}
use Rattle.rpm_hindex.specs.declared.faults.RewriteFault.TheVariants.{IndexFull, DiskFault, NoMemory}
use Rattle.rpm_hindex.specs.Rows.{Row}
use Rattle.rpm_hindex.specs.Sizes.{bucket_count, units_for}
use Rattle.rpm_hindex.specs.State.{IndexState, EndsInZero}
use Rattle.rpm_outside.specs.Words.{word}

-- the fault that the file can't hold so many units, exactly where it can't
abbrev pub IsIndexFull : {T : Type 0} → ℕ → Result T RewriteFault → Type 0
IsIndexFull needed (Ok done) = needed ≤ 2 ^ 28
IsIndexFull needed (Err (IndexFull told)) = (2 ^ 28 < needed) × (told ≡ needed)
IsIndexFull needed (Err DiskFault) = needed ≤ 2 ^ 28
IsIndexFull needed (Err NoMemory) = needed ≤ 2 ^ 28

-- an answer before the first write
abbrev pub IsRebuildRefused : RewriteFault → Type 0
IsRebuildRefused (IndexFull needed) = Unit {0}
IsRebuildRefused DiskFault = ⊥
IsRebuildRefused NoMemory = Unit {0}

-- the value of an index of these rows that isn't sealed, has the buckets that they need, and no dead unit
pub record IsRebuiltIndex (rows : List Row) (state : IndexState) : Type 0 where
  pub pending : state.pending ≡ bucket_count (length rows)
  pub voided : state.first ≡ blank
  pub size : word 0 state.second ≡ units_for rows
  pub zero : EndsInZero state.second
