-- What loading answers.
use Rattle.std.specs.Prelude.{◌≡◌, Result, Ok, Err}
use Rattle.rpm_outside.specs.Logs.{LogState, Malformed}
use Rattle.rpm_group.specs.declared.load.LoadFault.{LoadFault}
use Rattle.rpm_group.specs.declared.load.LoadFault.TheVariants.{BadLog, DiskFault, NoMemory}

-- the log isn't malformed
abbrev pub IsSound : LogState → Type 0
IsSound (Malformed unit) = ⊥
IsSound others = Unit {0}

-- a fault of the disk or of memory
abbrev pub IsOutsideLog : LoadFault → Type 0
IsOutsideLog (BadLog unit) = ⊥
IsOutsideLog DiskFault = Unit {0}
IsOutsideLog NoMemory = Unit {0}

-- a log that is wrong is told with its unit, and one that is loaded isn't wrong
abbrev pub LoadSays : LogState → Result (Unit {0}) LoadFault → Type 0
LoadSays state (Ok done) = IsSound state
LoadSays state (Err (BadLog unit)) = state ≡ Malformed unit
LoadSays state (Err DiskFault) = Unit {0}
LoadSays state (Err NoMemory) = Unit {0}
