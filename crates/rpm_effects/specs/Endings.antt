-- How a command ends: its status, and the ending that a halt, or a database that isn't recovered, loaded or opened,
-- makes of it. Of them `status` of `run` is on the page (`rpm_tool`, Theorem.antt).
use Rattle.std.specs.Prelude.{ℕ, min, Bool, true, Option, Some, None}
use Rattle.rpm_file.specs.declared.fault.FileFault.{FileFault}
use Rattle.rpm_file.specs.declared.fault.FileFault.TheVariants as file
use Rattle.rpm_select.specs.declared.picked.PickFault.{PickFault}
use Rattle.rpm_select.specs.declared.picked.PickFault.TheVariants as pick
use Rattle.rpm_effects.specs.declared.tally.Halt.{Halt}
use Rattle.rpm_effects.specs.declared.tally.Halt.TheVariants as halt
use Rattle.rpm_group.specs.declared.load.LoadFault.{LoadFault}
use Rattle.rpm_group.specs.declared.load.LoadFault.TheVariants as load
use Rattle.rpm_effects.specs.declared.answer.Why.{Why}
use Rattle.rpm_effects.specs.declared.answer.Why.TheVariants as why
use Rattle.rpm_group.specs.declared.recovery.RecoverFault.{RecoverFault}
use Rattle.rpm_group.specs.declared.recovery.RecoverFault.TheVariants as recover
use Rattle.rpm_db.specs.declared.open_fault.DbOpenFault.{DbOpenFault}
use Rattle.rpm_db.specs.declared.open_fault.DbOpenFault.TheVariants as opening

-- what stops a command where a package file isn't read: nothing where the file itself is refused
abbrev pub stop_in : FileFault → Option Halt
stop_in file.ReadFault = Some halt.ShelfFault
stop_in file.NoMemory = Some halt.NoMemory
stop_in others = None

-- what halts a command where a picker fails
abbrev pub halt_of_pick : PickFault → Halt
halt_of_pick (pick.BadIndex unit) = halt.BadIndex unit
halt_of_pick pick.DiskFault = halt.DiskFault
halt_of_pick pick.NoMemory = halt.NoMemory

-- the ending of a command that was halted
abbrev pub why_of_halt : Halt → Why
why_of_halt halt.NumbersSpent = why.NumbersSpent
why_of_halt halt.GenerationSpent = why.GenerationSpent
why_of_halt halt.StoreFull = why.StoreFull
why_of_halt (halt.IndexFull needed) = why.IndexFull needed
why_of_halt (halt.BadIndex unit) = why.BadIndex unit
why_of_halt halt.DiskFault = why.DiskFault
why_of_halt halt.ShelfFault = why.ShelfFault
why_of_halt halt.OutFault = why.OutFault
why_of_halt halt.ErrFault = why.ErrFault
why_of_halt halt.NoMemory = why.NoMemory

-- the exit status of each answer: that of the others is the database's
abbrev pub status_of : Why → ℕ
status_of why.Done = 0
status_of (why.Failed n) = min n 250
status_of (why.Usage fault) = 251
status_of (why.BadFormat fault) = 251
status_of why.ShelfFault = 253
status_of why.OutFault = 253
status_of why.ErrFault = 253
status_of why.NoMemory = 254
status_of others = 252

-- an answer of loading
abbrev pub why_of_load : LoadFault → Why
why_of_load (load.BadLog unit) = why.BadLog unit
why_of_load load.DiskFault = why.DiskFault
why_of_load load.NoMemory = why.NoMemory

-- where a write found no memory, a fault of the disk is that
abbrev pub unless_starved : Bool → Why → Why
unless_starved true why.DiskFault = why.NoMemory
unless_starved starved given = given

-- the answer of a command for each fault of recovery
abbrev pub why_of_recover : RecoverFault → Why
why_of_recover (recover.BadLog unit) = why.BadLog unit
why_of_recover recover.DiskFault = why.DiskFault

-- the answer of a command for each fault of opening
abbrev pub why_of_open : DbOpenFault → Why
why_of_open (opening.Damaged damage) = why.Damaged damage
why_of_open (opening.IndexFull needed) = why.IndexFull needed
why_of_open opening.DiskFault = why.DiskFault
why_of_open opening.NoMemory = why.NoMemory
