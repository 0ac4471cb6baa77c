use Rattle.std.proofs.Common.{[], ap, ◌∙◌, arith}
use Rattle.rpm_tool.proofs.Vocabulary.{Files, inner, is_foreign, is_of_streams, log_state, pkg_read, reopened_files, shown_outputs, store, Through}
use Rattle.rpm_tool.proofs.Faults.{cause_then, hands_none}
use Rattle.rpm_tool.proofs.OpeningLaws.{leaves_peeks, runs_peeks}
use Rattle.rpm_effects.proofs.laws.Reaching.{through_none}
use Rattle.rpm_tool.proofs.Recovered.{requests, did_opened, did_unopened, recovered, rest_same, undone_fault, unwritten}
use Rattle.rpm_commit.proofs.laws.Recovered.{recovering_packages, recovering_still}
use Rattle.rpm_group.proofs.laws.KeptLogs.{recovered_kept}
use Rattle.rpm_tool.proofs.Unloaded.{open_own, open_streams}
use Rattle.rpm_tool.proofs.Unrecovered.{unrecovered, unrecovered_bad, unrecovered_complete, unrecovered_full, unrecovered_kind, unrecovered_streams}
use Rattle.rpm_tool.proofs.Unrecovered.{unrecovered_undone}
use Rattle.rpm_tool.proofs.keyed.answer_keyed.Goals as goal

pub answer_opened-why-requires : goal.answer_opened-why-requires
answer_opened-why-requires g c =
    let opened = c.in-Ok-open_durable.ensures in
    record {
      asked = record {
        keeps = λ told. (opened.opened told).keeps.0;
        keeps_index = λ told. (opened.opened told).keeps.1;
        going = opened.served.fresh.going;
      };
      request = c.requires.request;
    }

pub returns-in-Ok-open_durable-clause-keyed : goal.returns-in-Ok-open_durable-clause-keyed
returns-in-Ok-open_durable-clause-keyed g c = λ told.
    let first = c.in-Ok.ensures in
    let then = c.in-Ok-open_durable.ensures in
    let last = c.answer_opened-why.ensures in
    let old = shown_outputs g.O.Sink g.E.Sink c.args.out.now c.args.err.now in
    let new = shown_outputs g.O.Sink g.E.Sink c.answer_opened-why.new.out c.answer_opened-why.new.err in
    let runs = runs_peeks g.D.Disk last.does.looks g.met.D.Disk.follows_trans then.runs in
    recovered g.D.Disk (first.images told) (g.met.D.Disk.as_read c.args.disk told) _ (first.says told) (first.kept told) (first.closed told)
    (first.files told) (first.durable told) c.args.format.now c.args.words.now c.args.ask.now c.answer_opened-why.new.disk c.answer_opened-why.result
    old new first.reads.pkg (runs.reads_as told) (runs.any_moment told) (λ lawful. leaves_peeks g.D.Disk last.does.looks told (then.crashes told lawful))
    (λ kept. (last.does.looks.untouched told).same ∙ (then.opened told).same kept)
    (did_opened c.args.format.now c.args.words.now c.args.ask.now g.D.Disk c.recover.new.disk c.open_durable.new.disk c.answer_opened-why.new.disk
    c.in-Ok-open_durable.db c.answer_opened-why.result old new told (then.opened told) (then.runs.reads_as told) then.served.fresh.indexed (then.reads told)
    last.does last.done last.opened)

pub returns-in-Ok-open_durable-clause-goes_on : goal.returns-in-Ok-open_durable-clause-goes_on
returns-in-Ok-open_durable-clause-goes_on g c =
    g.met.D.Disk.follows_trans c.args.disk c.recover.new.disk c.answer_opened-why.new.disk c.recover.ensures.reads.goes_on
    (g.met.D.Disk.follows_trans c.recover.new.disk c.open_durable.new.disk c.answer_opened-why.new.disk c.open_durable.ensures.runs.goes_on
    c.answer_opened-why.ensures.does.looks.goes_on)

pub returns-in-Ok-open_durable-clause-done : goal.returns-in-Ok-open_durable-clause-done
returns-in-Ok-open_durable-clause-done g c = c.answer_opened-why.ensures.done

pub returns-in-Ok-open_durable-clause-disk : goal.returns-in-Ok-open_durable-clause-disk
returns-in-Ok-open_durable-clause-disk g c =
    let faults = g.D.Disk.faults in
    cause_then (faults c.args.disk) (faults c.recover.new.disk) (faults c.answer_opened-why.new.disk) c.recover.ensures.cause.later
    (cause_then (faults c.recover.new.disk) (faults c.open_durable.new.disk) (faults c.answer_opened-why.new.disk) c.open_durable.ensures.cause.later
    c.answer_opened-why.ensures.disk)

pub returns-in-Ok-open_durable-clause-hands : goal.returns-in-Ok-open_durable-clause-hands
returns-in-Ok-open_durable-clause-hands g c = c.answer_opened-why.ensures.hands

pub returns-in-Err-open_durable-clause-keyed : goal.returns-in-Err-open_durable-clause-keyed
returns-in-Err-open_durable-clause-keyed g c = λ told.
    let first = c.in-Ok.ensures in
    let then = c.in-Err-open_durable.ensures in
    let x = shown_outputs g.O.Sink g.E.Sink c.args.out.now c.args.err.now in
    let none : Through [] x x = through_none {ot = g.O.Sink.tells} {et = g.E.Sink.tells} (g.O.Sink.taken (inner c.args.out.now))
    (g.E.Sink.taken (inner c.args.err.now)) in
    rw c.why_of_open.ensures (recovered g.D.Disk (first.images told) (g.met.D.Disk.as_read c.args.disk told) _ (first.says told) (first.kept told)
    (first.closed told) (first.files told) (first.durable told) c.args.format.now c.args.words.now c.args.ask.now c.open_durable.new.disk _ x x
    first.reads.pkg (then.runs.reads_as told) (then.runs.any_moment told) (then.crashes told)
    (λ kept. (then.opened told).same (unwritten _ c.in-Err-open_durable.fault kept))
    (did_unopened c.args.format.now c.args.words.now c.args.ask.now x none (g.D.Disk.files c.recover.new.disk) (pkg_read g.D.Disk c.recover.new.disk)
    (pkg_read g.D.Disk c.open_durable.new.disk) (g.D.Disk.files c.open_durable.new.disk) c.in-Err-open_durable.fault (then.opened told) (then.reads told)))

pub returns-in-Err-clause-keyed : goal.returns-in-Err-clause-keyed
returns-in-Err-clause-keyed g c = λ told.
    let a = c.args.ask.now in
    let words = c.args.words.now in
    let files = g.D.Disk.files c.args.disk in
    let first = c.in-Err.ensures in
    let fault = c.in-Err.fault in
    let r = reopened_files files in
    let now = pkg_read g.D.Disk c.recover.new.disk in
    let start = pkg_read g.D.Disk c.args.disk in
    let x = shown_outputs g.O.Sink g.E.Sink c.args.out.now c.args.err.now in
    let none : Through [] x x = through_none {ot = g.O.Sink.tells} {et = g.E.Sink.tells} (g.O.Sink.taken (inner c.args.out.now))
    (g.E.Sink.taken (inner c.args.err.now)) in
    rw c.why_of_recover.ensures (record {
      went = unrecovered (requests c.args.format.now words a r start now) (store r.pkg) x none (undone_fault c.args.format.now words a x none r start now)
          (log_state files.log) fault (first.says told);
      reads = λ query group. omega (arith, first.reads.pkg);
      kind = unrecovered_kind fault;
      index_full = unrecovered_full r fault;
      bad_index = unrecovered_bad words a r fault;
      complete = λ group room. unrecovered_complete (log_state files.log) fault (first.says told) group.sound;
      index = λ group done. absurd (unrecovered_undone fault done);
      packages = ap (λ (f : Files). f.pkg) (first.stands told);
      kept = recovered_kept files (g.D.Disk.files c.recover.new.disk) (first.kept told);
      still = rest_same files (g.D.Disk.files c.recover.new.disk) (first.kept told);
      leaves = recovering_packages g.D.Disk c.args.disk c.recover.new.disk (first.images told);
      crashes = λ lawful. recovering_still g.D.Disk c.args.disk c.recover.new.disk (first.images told) lawful;
    })

-- ---- what wasn't opened

pub returns-in-Err-open_durable-clause-goes_on : goal.returns-in-Err-open_durable-clause-goes_on
returns-in-Err-open_durable-clause-goes_on g c =
    g.met.D.Disk.follows_trans c.args.disk c.recover.new.disk c.open_durable.new.disk c.recover.ensures.reads.goes_on c.open_durable.ensures.runs.goes_on

pub returns-in-Err-open_durable-clause-done : goal.returns-in-Err-open_durable-clause-done
returns-in-Err-open_durable-clause-done g c = ap is_foreign c.why_of_open.ensures ∙ open_own c.in-Err-open_durable.fault

pub returns-in-Err-open_durable-clause-hands : goal.returns-in-Err-open_durable-clause-hands
returns-in-Err-open_durable-clause-hands g c =
    hands_none g.O.Sink g.E.Sink g.met.O.Sink.follows_refl g.met.E.Sink.follows_refl c.why_of_open.result
    (ap is_of_streams c.why_of_open.ensures ∙ open_streams c.in-Err-open_durable.fault) c.args.out.now c.args.err.now

pub returns-in-Err-clause-goes_on : goal.returns-in-Err-clause-goes_on
returns-in-Err-clause-goes_on g c = c.recover.ensures.reads.goes_on

pub returns-in-Err-clause-done : goal.returns-in-Err-clause-done
returns-in-Err-clause-done g c = ap is_foreign c.why_of_recover.ensures ∙ unrecovered_kind c.in-Err.fault

pub returns-in-Err-clause-hands : goal.returns-in-Err-clause-hands
returns-in-Err-clause-hands g c =
    hands_none g.O.Sink g.E.Sink g.met.O.Sink.follows_refl g.met.E.Sink.follows_refl c.why_of_recover.result
    (ap is_of_streams c.why_of_recover.ensures ∙ unrecovered_streams c.in-Err.fault) c.args.out.now c.args.err.now
