use Rattle.std.proofs.Common.{◌≡◌, true, Result, subst}
use Rattle.std.specs.Prelude.{IfErr}
use Rattle.rpm_commit.proofs.Vocabulary.{is_halt, laid_files, overlay_below, overlay_held, Tally, without_log, Why}
use Rattle.rpm_commit.proofs.Ends.{release_ends}
use Rattle.rpm_commit.proofs.changing.end_transaction.Goals as goal

pub returns-in-Err-clause-ends : goal.returns-in-Err-clause-ends
returns-in-Err-clause-ends g c = λ told.
    let below = overlay_below c.args.overlay in
    let halts = subst (λ (e : Result Tally Why). IfErr e (λ w. is_halt w ≡ true)) c.in-Err.is c.requires.halted in
    rw (c.in-Err.is, c.unchanged-in-Err.ensures, c.unless_starved-why.ensures)
    (release_ends g.D.Disk (without_log (laid_files (overlay_held c.args.overlay) (g.D.Disk.files below))) below c.release-in-Err.result
    (c.requires.shut told) c.release-in-Err.ensures c.is_starved-in-Err.result c.in-Err.given halts)
