-- When a change of the index is refused.
use Rattle.std.specs.Prelude.{◌≡◌, ℕ, ◌^◌, ◌<◌, ◌≤◌, ◌⊎◌, List, length, Err}
use Rattle.std.specs.List.{sum_by}
use Rattle.rpm_outside.specs.Files.{Units, unit_at}
use Rattle.rpm_hindex.specs.declared.faults.PrepareFault.{PrepareFault}
use Rattle.rpm_hindex.specs.declared.faults.PrepareFault.TheVariants.{IndexFull, BadIndex, DiskFault, NoMemory}
use Rattle.rpm_outside.specs.Words.{word}
use Rattle.rpm_hindex.specs.Rows.{Row, times}
use Rattle.rpm_hindex.specs.Sizes.{units_for, live_of}
use Rattle.rpm_hindex.specs.Plans.{HasChanged}
use Rattle.rpm_hindex.specs.Index.{index_in, chain, all_places, units_at, records}

-- a fault for want of room tells what the rows need that are those of a file with a change, which is too much
abbrev pub IsTooLargeFor : List Row → List Row → List Row → PrepareFault → Type 0
IsTooLargeFor drops adds old (BadIndex unit) = Unit {0}
IsTooLargeFor drops adds old (IndexFull needed) = (2 ^ 28 < needed)
    × ((new : List Row) → HasChanged drops adds old new → needed ≡ units_for new)
IsTooLargeFor drops adds old DiskFault = Unit {0}
IsTooLargeFor drops adds old NoMemory = Unit {0}

-- rows that are those of a file with a change need no more units than a file has
abbrev pub HasUnitsFor : List Row → List Row → List Row → Type 0
HasUnitsFor drops adds old = (new : List Row) → HasChanged drops adds old new → units_for new ≤ 2 ^ 28

-- the chains hold more records, or more units, than unit 1 counts
abbrev pub HoldsMore : ℕ → Units → Type 0
HoldsMore buckets file =
    (word 1 (unit_at file 1) < length (all_places (index_in buckets file)))
    ⊎ (word 2 (unit_at file 1) < sum_by (units_at (unit_at file)) (all_places (index_in buckets file)))

-- some rows, each at most as often as it is dropped and as the file has it, are more than unit 1 counts, or have more
-- units
pub record DropsMore (drops : List Row) (buckets : ℕ) (file : Units) : Type 0 where
  pub gone : List Row
  pub dropped : (row : Row) → times row gone ≤ times row drops
  pub held : (row : Row) → times row gone ≤ times row (records buckets file)
  pub more : (word 1 (unit_at file 1) < length gone) ⊎ (word 2 (unit_at file 1) < live_of gone)

-- a fault that names a unit names the fault of a bucket's chain
abbrev pub IsFaulty : ℕ → Units → PrepareFault → Type 0
IsFaulty buckets file (BadIndex unit) = (b : ℕ) × (b < buckets) × (chain (index_in buckets file) b ≡ Err unit)
IsFaulty buckets file others = Unit {0}

-- a refusal blames a unit for a fault in a chain, or unit 1 where the change drops more than that counts
abbrev pub IsBadFor : List Row → ℕ → Units → PrepareFault → Type 0
IsBadFor drops buckets file (BadIndex unit) = ((b : ℕ) × (b < buckets) × (chain (index_in buckets file) b ≡ Err unit))
    ⊎ ((unit ≡ 1) × DropsMore drops buckets file)
IsBadFor drops buckets file others = Unit {0}

-- a fault that names a unit names the fault of a bucket's chain, or unit 1, which counts too little
abbrev pub IsBad : ℕ → Units → PrepareFault → Type 0
IsBad buckets file (BadIndex unit) = IsFaulty buckets file (BadIndex unit) ⊎ ((unit ≡ 1) × HoldsMore buckets file)
IsBad buckets file others = Unit {0}
