use Rattle.std.proofs.Common.{◌∙◌, Ok, Err, false, sym, ap, subst}
use Rattle.rpm_qfparse.proofs.Vocabulary.{bare_fault, IsProper}
use Rattle.rpm_qfparse.proofs.Law.{format_placed}
use Rattle.rpm_qfparse.proofs.Proper.{proper}
use Rattle.rpm_qfparse.proofs.Unique.{left}
use Rattle.rpm_qfparse.proofs.reader.parse.Goals as goal

pub overflow_sub-result : goal.overflow_sub-result
overflow_sub-result c = let g = rw c.in-Err-Fault.field-0-is at c.in-Err-Fault.ensures in left g

pub returns-in-Ok-clause-format : goal.returns-in-Ok-clause-format
returns-in-Ok-clause-format c = format_placed c.args.text.now (Ok (c.in-Ok.parts, c.in-Ok.field-0-1.now)) c.if-text.false c.in-Ok.ensures
    ∙ sym (ap Ok c.new.ensures)

pub returns-in-Ok-clause-proper : goal.returns-in-Ok-clause-proper
returns-in-Ok-clause-proper c = subst (IsProper false 0) (sym c.new.ensures) (proper c.in-Ok.ensures)

pub returns-in-Err-Fault-clause-format : goal.returns-in-Err-Fault-clause-format
returns-in-Err-Fault-clause-format c = λ _.
    let g = rw c.in-Err-Fault.field-0-is at c.in-Err-Fault.ensures in
    format_placed c.args.text.now (Err (bare_fault c.in-Err-Fault.fault)) c.if-text.false g

pub returns-in-Err-Fault-clause-memory : goal.returns-in-Err-Fault-clause-memory
returns-in-Err-Fault-clause-memory c = λ e. let g = rw c.in-Err-Fault.field-0-is at c.in-Err-Fault.ensures in absurd (proper g e)

pub new-requires : goal.new-requires
new-requires c = proper c.in-Ok.ensures
