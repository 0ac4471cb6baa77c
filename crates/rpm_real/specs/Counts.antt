-- What the real objects count.
use Rattle.std.specs.Prelude.{◌≡◌, ℕ, ◌+◌, ◌-◌, ◌^◌, min, Bool, true, false}
use Rattle.rpm_outside.specs.declared.disk.File.{File}
use Rattle.rpm_outside.specs.declared.disk.File.TheVariants.{Pkg, Idx, Log}
use Rattle.rpm_outside.specs.Shelves.{ShelfCall, Open, Take}

-- the count of one of the three files
abbrev pub count_of_file : ℕ → ℕ → ℕ → File → ℕ
count_of_file pkg idx log Pkg = pkg
count_of_file pkg idx log Idx = idx
count_of_file pkg idx log Log = log

-- a call that failed is counted once, up to the last value of the count's type; one that didn't isn't
abbrev pub FaultCount : Bool → ℕ → ℕ → Type 0
FaultCount true before now = now ≡ min (before + 1) (2 ^ 64 - 1)
FaultCount false before now = now ≡ before

-- a shelf counts a path that it couldn't open, and a read that failed, each in its own count
abbrev pub ShelfCounted : ShelfCall → Bool → ℕ → ℕ → ℕ → ℕ → Type 0
ShelfCounted (Open path) failed absences faults new_absences new_faults = FaultCount failed absences new_absences
    × (new_faults ≡ faults)
ShelfCounted (Take size) failed absences faults new_absences new_faults = (new_absences ≡ absences)
    × FaultCount failed faults new_faults
