-- The faults of a change that stop a command.
use Rattle.rpm_db.specs.declared.change_fault.ChangeFault.{ChangeFault}
use Rattle.rpm_db.specs.declared.change_fault.ChangeFault.TheVariants.{BadHeader, NoSuch, Stopped}

-- a fault of a limit, of the index, of the disk or of memory
abbrev pub IsHalting : ChangeFault → Type 0
IsHalting (BadHeader fault) = ⊥
IsHalting NoSuch = ⊥
IsHalting Stopped = ⊥
IsHalting others = Unit {0}
