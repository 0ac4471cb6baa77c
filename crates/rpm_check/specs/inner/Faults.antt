-- What stops a report where a picker fails.
use Rattle.rpm_select.specs.declared.picked.PickFault.{PickFault}
use Rattle.rpm_select.specs.declared.picked.PickFault.TheVariants as pick
use Rattle.rpm_check.specs.declared.faults.CheckFault.{CheckFault}
use Rattle.rpm_check.specs.declared.faults.CheckFault.TheVariants.{BadIndex, DiskFault, NoMemory}

-- the fault of a report that a picker's fault becomes
abbrev pub check_fault : PickFault → CheckFault
check_fault (pick.BadIndex unit) = BadIndex unit
check_fault pick.DiskFault = DiskFault
check_fault pick.NoMemory = NoMemory
