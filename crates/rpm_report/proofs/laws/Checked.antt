-- What stops a report.
use Rattle.std.proofs.Common.{◌≡◌, Bool, true, false, List, Ok, Err, Result, refl}
use Rattle.std.specs.Prelude.{IfErr, is_ok}
use Rattle.rpm_effects.specs.Progress.{Outputs}
use Rattle.rpm_effects.specs.Steps.{Bearer, Step}
use Rattle.rpm_effects.specs.declared.tally.Halt.{Halt}
use Rattle.rpm_check.specs.Answers.{is_index_fault, IsBroken}
use Rattle.rpm_check.specs.declared.faults.CheckFault.{CheckFault}
use Rattle.rpm_effects.specs.Answers.{PartIs, PartProgress}
use Rattle.rpm_effects.specs.Endings.{why_of_halt}
use Rattle.rpm_effects.specs.Classes.{is_done, IsOfRead}
use Rattle.rpm_report.specs.Requirements.{halt_of_check, HaltsOfSome, IsOfSome, why_of_report}
use Rattle.rpm_outside.specs.Files.{Units}
use Rattle.rpm_effects.specs.Portions.{Portion}
use Rattle.rpm_check.specs.declared.faults.CheckFault.TheVariants as check
use Rattle.rpm_effects.specs.declared.tally.Halt.TheVariants as halt

pub broken_stops : (idx : Units) (f : CheckFault) → IsBroken idx f → HaltsOfSome idx (halt_of_check f)
broken_stops idx (check.BadIndex unit) is = is
broken_stops idx check.DiskFault is = tt
broken_stops idx check.NoMemory is = tt

pub lawful_stops : (f : CheckFault) → is_index_fault f ≡ false → IsOfRead (halt_of_check f)
lawful_stops (check.BadIndex unit) is = absurd cc
lawful_stops check.DiskFault is = refl
lawful_stops check.NoMemory is = refl

-- what was stopped within steps was stopped by no index
pub reached_unbroken : (T : Type 0) (steps : List Step) (idx : Units) (s : Halt) (old new : Outputs)
    (reads_to : Bearer → Type 0)
    → PartProgress {T = T} steps (Err s) old new reads_to → HaltsOfSome idx s
reached_unbroken T steps idx (halt.BadIndex unit) old new reads_to r = absurd r
reached_unbroken T steps idx others old new reads_to r = tt

pub part_unbroken : {p : Portion} {s : Halt} {old new : Outputs} {reads_to : Bearer → Type 0} (idx : Units)
    → PartIs p (Err s) old new reads_to
    → HaltsOfSome idx s
part_unbroken {p = p} {s = s} {old = old} {new = new}
    {reads_to = reads_to} idx part = reached_unbroken Bool p.steps idx s old new reads_to part.steps

-- the ending of a report that was stopped
pub stops_some : (idx : Units) (s : Halt) → HaltsOfSome idx s → IsOfSome idx (why_of_halt s)
stops_some idx (halt.BadIndex unit) is = is
stops_some idx others is = tt

pub report_some : (idx : Units) (told : Result Bool Halt) → IfErr told (HaltsOfSome idx)
    → IsOfSome idx (why_of_report told)
report_some idx (Ok true) is = tt
report_some idx (Ok false) is = tt
report_some idx (Err s) is = stops_some idx s is

pub report_done : (told : Result Bool Halt) → is_done (why_of_report told) ≡ true → is_ok told ≡ true
report_done (Ok fails) is = refl
report_done (Err halt.DiskFault) is = absurd cc
report_done (Err others) is = absurd cc
