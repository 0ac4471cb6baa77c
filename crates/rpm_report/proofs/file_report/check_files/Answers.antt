use Rattle.rpm_report.proofs.Vocabulary.{Anywhere, bad, Bearer, check_files, conflicts, Everything, fails, FinMap, Halt, IsReport, nat_cmp, Outputs, Package}
use Rattle.rpm_report.proofs.Vocabulary.{packages_in, PartIs, pkg_read, reached_by, Report, report_steps, Step, together, told_steps, CommandProgress, whole_step}
use Rattle.rpm_report.proofs.Vocabulary.{why_of_report}
use Rattle.std.proofs.Common.{◌≡◌, ◌+◌, ◌≤◌, true, false, Bool, List, [], ◌∷◌, map, Result, Ok, Err, sym, subst, arith}
use Rattle.rpm_report.specs.Labels.{label_of_number}
use Rattle.rpm_report.proofs.laws.Reporting.{went_report}
use Rattle.rpm_effects.proofs.laws.Parts.{part_reads}
use Rattle.rpm_report.proofs.Labels.{same_steps}
use Rattle.rpm_effects.proofs.laws.Reaching.{not_begun, through_none}
use Rattle.rpm_report.proofs.file_report.check_files.Goals as goal

-- what was told of a report was told of the packages
ended : (packages : FinMap nat_cmp Package) (r : Report) → IsReport packages r → (told : Result Bool Halt) {old new : Outputs} (reads_to : Bearer → Type 0)
    → reads_to (whole_step 0) → PartIs (together (map fails (told_steps r))) told old new (λ for. for ≡ whole_step 0)
    → CommandProgress (check_files packages) (why_of_report told) old new reads_to
ended packages r is told {old = old} {new = new} reads_to reads part =
    let all = together (map fails (report_steps (label_of_number packages) (bad packages) (conflicts packages))) in
    went_report all told old new reads_to
    (part_reads all told old new (λ for. for ≡ whole_step 0) reads_to (λ b same. subst reads_to (sym same) reads)
    (subst (λ (steps : List Step). PartIs (together (map fails steps)) told old new (λ for. for ≡ whole_step 0)) (same_steps packages r is) part))

pub returns-in-Err-DiskFault-clause-went : goal.returns-in-Err-DiskFault-clause-went
returns-in-Err-DiskFault-clause-went g c = λ tells. not_begun (through_none {ot = g.O.Sink.tells} {et = g.E.Sink.tells} _ _)

pub returns-in-Err-NoMemory-clause-went : goal.returns-in-Err-NoMemory-clause-went
returns-in-Err-NoMemory-clause-went g c = λ tells. not_begun (through_none {ot = g.O.Sink.tells} {et = g.E.Sink.tells} _ _)

pub returns-clause-went : goal.returns-clause-went
returns-clause-went g c = λ tells.
    let reads : Bearer → Type 0 = λ for. pkg_read g.D.Disk c.conflicts.new.disk ≤ pkg_read g.D.Disk c.args.disk.now
    + reached_by (Everything ∷ []) c.args.db.now for in
    rw c.from.ensures (ended (packages_in g.D.Disk c.args.disk.now c.args.db.now) c.in-Ok.report (c.in-Ok.ensures.told tells) (Err c.in-Err.halt) reads
    (omega (arith, c.in-Ok.ensures.asks.looks.reads.pkg)) c.in-Err.ensures.part)

pub returns-in-Ok-true-clause-went : goal.returns-in-Ok-true-clause-went
returns-in-Ok-true-clause-went g c = λ tells.
    ended (packages_in g.D.Disk c.args.disk.now c.args.db.now) c.in-Ok.report (c.in-Ok.ensures.told tells) (Ok true) Anywhere tt
    (rw c.in-Ok-true.field-0-test at c.in-Ok-true.ensures.part)

pub returns-in-Ok-false-clause-went : goal.returns-in-Ok-false-clause-went
returns-in-Ok-false-clause-went g c = λ tells.
    ended (packages_in g.D.Disk c.args.disk.now c.args.db.now) c.in-Ok.report (c.in-Ok.ensures.told tells) (Ok false) Anywhere tt
    (rw c.in-Ok-false.field-0-test at c.in-Ok-false.ensures.part)
