use Rattle.std.proofs.Common.{[], length, refl, ap, ◌∙◌, Ok, Err, arith}
use Rattle.rpm_exercise.proofs.Vocabulary.{exported_bytes, flat_map, from_one, looks_run, packages_in, picks_from_one, sha256}
use Rattle.rpm_exercise.proofs.Asking.{askable_on, asks_call, asks_then, looks_index}
use Rattle.rpm_exercise.proofs.Walked.{walked_all, walked_more}
use Rattle.rpm_exercise.proofs.survey.survey.Goals as goal

pub loop-picked-init : goal.loop-picked-init
loop-picked-init g c =
    let begun = c.in-Ok.ensures in
    let file = (g.D.Disk.files c.args.disk.now).pkg in
    record {
      asks = asks_call g.D.Disk (Ok c.in-Ok.picker) begun.asks.lawful (looks_index g.D.Disk begun.asks.looks) begun.asks.cause;
      few = omega arith;
      goes = λ told rows. (
        begun.serves told rows,
        record {
          done = [];
          all_is = picks_from_one file c.args.db.now c.args.selection.now (from_one file c.args.db.now (c.requires.asked.keeps told));
          counted = refl;
          fed = c.new-hasher.ensures;
        },
      );
    }

pub next_after-requires-clause-keeps : goal.next_after-requires-clause-keeps
next_after-requires-clause-keeps g c = (askable_on g.D.Disk c.loop-picked.invariant.asks c.requires.asked).keeps

pub loop-picked-preserved : goal.loop-picked-preserved
loop-picked-preserved g c =
    let inv = c.loop-picked.invariant in
    let done = rw c.in-Ok-Some.field-0-is at c.in-Ok-Some.ensures in
    record {
      asks = asks_then g.D.Disk inv.asks g.met.D.Disk.follows_trans
          (asks_call g.D.Disk (Ok _) (λ told rows. done.asks.unbroken) (looks_run g.D.Disk done.asks.looks) done.asks.cause);
      few = omega (arith, inv.few, c.into_number-number.ensures, done.rises);
      goes = λ told rows.
          let goes = inv.goes told rows in
          let next = rw (inv.asks.runs.reads_as told) at (done.told told) goes.0 in
          rw (c.into_number-number.ensures, done.same) (
            goes.0,
            walked_more (packages_in g.D.Disk c.args.disk.now c.args.db.now) c.args.selection.now
                c.loop-picked.number c.loop-picked.count c.in-Ok-Some.picked next.0 next.1 goes.1 (c.feed.ensures _ goes.1.fed),
          );
    }

pub returns-in-Ok-None-clause-told : goal.returns-in-Ok-None-clause-told
returns-in-Ok-None-clause-told g c = λ told rows.
    let inv = c.loop-picked.invariant in
    let goes = inv.goes told rows in
    let last = rw c.in-Ok-None.field-0-is at c.in-Ok-None.ensures in
    let none = rw (inv.asks.runs.reads_as told) at (last.told told) goes.0 in
    let all = walked_all _ _ _ _ none goes.1 in
    (goes.1.counted ∙ ap length all, c.finalize-digest.ensures _ goes.1.fed ∙ ap (λ l. sha256 (flat_map exported_bytes l)) all)

pub returns-in-Ok-None-clause-asks : goal.returns-in-Ok-None-clause-asks
returns-in-Ok-None-clause-asks g c =
    let last = c.in-Ok-None.ensures.asks in
    asks_then g.D.Disk c.loop-picked.invariant.asks g.met.D.Disk.follows_trans
    (asks_call g.D.Disk (Ok _) (λ told rows. last.unbroken) (looks_run g.D.Disk last.looks) last.cause)

pub returns-in-Err-clause-asks : goal.returns-in-Err-clause-asks
returns-in-Err-clause-asks g c =
    let said = c.in-Err.ensures.asks in
    rw c.halt_of_pick.ensures.value (asks_call g.D.Disk (Err c.in-Err.fault) said.lawful (looks_index g.D.Disk said.looks) said.cause)

pub returns-in-Err-next_after-clause-asks : goal.returns-in-Err-next_after-clause-asks
returns-in-Err-next_after-clause-asks g c =
    let said = c.in-Err-next_after.ensures.asks in
    rw c.halt_of_pick-in-Err-next_after.ensures.value (asks_then g.D.Disk c.loop-picked.invariant.asks g.met.D.Disk.follows_trans
    (asks_call g.D.Disk (Err c.in-Err-next_after.fault) (λ told rows. said.unbroken) (looks_run g.D.Disk said.looks) said.cause))
