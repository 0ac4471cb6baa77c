use Rattle.std.proofs.Common.{◌++◌, refl, arith}
use Rattle.rpm_exercise.proofs.Vocabulary.{capability_line, capability_lines, err_is, packages_in}
use Rattle.rpm_exercise.proofs.Asking.{askable_on, asks_none, asks_then}
use Rattle.rpm_exercise.proofs.Walked.{lines_more, lines_end}
use Rattle.rpm_exercise.proofs.summary.push_capabilities.Goals as goal

pub loop-c-init : goal.loop-c-init
loop-c-init g c = record {
  goes = λ told rows. refl;
  asks = asks_none g.D.Disk g.met.D.Disk.follows_refl c.args.disk.now c.args.db.now;
}

pub push_capability-requires-clause-asked : goal.push_capability-requires-clause-asked
push_capability-requires-clause-asked g c = askable_on g.D.Disk c.loop-c.invariant.asks c.requires.asked

pub loop-c-preserved : goal.loop-c-preserved
loop-c-preserved g c =
    let inv = c.loop-c.invariant in
    let done = c.in_ok-push_capability.ensures in
    let all = packages_in g.D.Disk c.args.disk.now c.args.db.now in
    record {
      goes = λ told rows.
          let same = inv.asks.runs.reads_as told in
          lines_more (capability_line all) c.loop-c.text.items c.push_capability.new.text.items (c.args.text.now.items ++ capability_lines all)
          c.loop-c.c 7 (omega arith) (rw same at (done.told told (rw same rows))) (inv.goes told rows);
      asks = asks_then g.D.Disk inv.asks g.met.D.Disk.follows_trans done.asks;
    }

pub returns-in_err-push_capability-clause-asks : goal.returns-in_err-push_capability-clause-asks
returns-in_err-push_capability-clause-asks g c =
    rw (err_is c.from_residual.result c.from_residual.ensures)
    (asks_then g.D.Disk c.loop-c.invariant.asks g.met.D.Disk.follows_trans c.in_err-push_capability.ensures.asks)

pub returns-clause-told : goal.returns-clause-told
returns-clause-told g c = λ told rows.
    let all = packages_in g.D.Disk c.args.disk.now c.args.db.now in
    lines_end (capability_line all) c.loop-c.text.items (c.args.text.now.items ++ capability_lines all) c.loop-c.c 7 (omega arith)
    (c.loop-c.invariant.goes told rows)
