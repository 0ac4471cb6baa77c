use Rattle.std.proofs.Common.{append_assoc, codes}
use Rattle.rpm_exercise.proofs.Vocabulary.{capability_lines, count_line, digest_line, err_is, packages_in, picked_count, summary}
use Rattle.rpm_select.specs.declared.selection.Selection.TheVariants as question
use Rattle.rpm_exercise.proofs.Asking.{askable_on, asks_full, asks_then}
use Rattle.rpm_exercise.proofs.summary.summary.Goals as goal

pub push_capabilities-requires : goal.push_capabilities-requires
push_capabilities-requires g c = record { asked = askable_on g.D.Disk c.in_ok-all.ensures.asks c.requires.asked }

pub returns-in_err-all-clause-asks : goal.returns-in_err-all-clause-asks
returns-in_err-all-clause-asks g c = rw (err_is c.from_residual.result c.from_residual.ensures) c.in_err-all.ensures.asks

pub returns-in_err-push_count-clause-asks : goal.returns-in_err-push_count-clause-asks
returns-in_err-push_count-clause-asks g c =
    rw (err_is c.from_residual-in_err-push_count.result c.from_residual-in_err-push_count.ensures) (asks_full g.D.Disk c.in_ok-all.ensures.asks)

pub returns-in_err-push_capabilities-clause-asks : goal.returns-in_err-push_capabilities-clause-asks
returns-in_err-push_capabilities-clause-asks g c =
    rw (err_is c.from_residual-in_err-push_capabilities.result c.from_residual-in_err-push_capabilities.ensures)
    (asks_then g.D.Disk c.in_ok-all.ensures.asks g.met.D.Disk.follows_trans c.in_err-push_capabilities.ensures.asks)

pub returns-in_err-push_digest-clause-asks : goal.returns-in_err-push_digest-clause-asks
returns-in_err-push_digest-clause-asks g c =
    rw (err_is c.from_residual-in_err-push_digest.result c.from_residual-in_err-push_digest.ensures)
    (asks_full g.D.Disk (asks_then g.D.Disk c.in_ok-all.ensures.asks g.met.D.Disk.follows_trans c.in_ok-push_capabilities.ensures.asks))

pub returns-clause-asks : goal.returns-clause-asks
returns-clause-asks g c = asks_then g.D.Disk c.in_ok-all.ensures.asks g.met.D.Disk.follows_trans c.in_ok-push_capabilities.ensures.asks

pub returns-clause-told : goal.returns-clause-told
unfolding summary
returns-clause-told g c = λ told rows.
    let all = c.in_ok-all.ensures in
    let found = all.told told rows in
    let same = all.asks.runs.reads_as told in
    let lines = rw same at (c.in_ok-push_capabilities.ensures.told told (rw same rows)) in
    let packages = packages_in g.D.Disk c.args.disk.now c.args.db.now in
    rw (c.in_ok-push_digest.ensures, lines, c.in_ok-push_count.ensures, c.new-text.ensures.items, found.0, found.1)
    (append_assoc (count_line (codes "packages") (picked_count packages question.All)) (capability_lines packages) (digest_line packages))
