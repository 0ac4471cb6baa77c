-- Why a command was halted, and its ending.
use Rattle.std.proofs.Common.{◌≡◌, false, refl}
use Rattle.rpm_effects.specs.declared.tally.Halt.{Halt}
use Rattle.rpm_effects.specs.Endings.{why_of_halt}
use Rattle.rpm_effects.specs.Classes.{is_foreign, is_of_opening, IsOfPrint}
use Rattle.rpm_effects.specs.declared.tally.Halt.TheVariants as halt
use Rattle.rpm_effects.specs.declared.answer.Why.TheVariants as why

pub of_disk : (h : Halt) → why_of_halt h ≡ why.DiskFault → h ≡ halt.DiskFault
of_disk halt.DiskFault is = refl
of_disk others is = absurd cc

pub of_out : (h : Halt) → why_of_halt h ≡ why.OutFault → h ≡ halt.OutFault
of_out halt.OutFault is = refl
of_out others is = absurd cc

pub of_err : (h : Halt) → why_of_halt h ≡ why.ErrFault → h ≡ halt.ErrFault
of_err halt.ErrFault is = refl
of_err others is = absurd cc

pub of_print : (h : Halt) → IsOfPrint h → is_foreign (why_of_halt h) ≡ false
of_print (halt.BadIndex unit) of = refl
of_print halt.DiskFault of = refl
of_print halt.OutFault of = refl
of_print halt.ErrFault of = refl
of_print halt.NoMemory of = refl
of_print others of = absurd cc

pub not_of_opening : (h : Halt) → IsOfPrint h → is_of_opening (why_of_halt h) ≡ false
not_of_opening (halt.BadIndex unit) of = refl
not_of_opening halt.DiskFault of = refl
not_of_opening halt.OutFault of = refl
not_of_opening halt.ErrFault of = refl
not_of_opening halt.NoMemory of = refl
not_of_opening others of = absurd cc

-- what the ending of a report goes by
pub ruleset of_report = (of_print, not_of_opening, of_disk, of_out, of_err)
