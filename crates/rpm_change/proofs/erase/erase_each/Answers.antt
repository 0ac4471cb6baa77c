use Rattle.std.proofs.Common.{◌+◌, get_or, drop, refl, arith}
use Rattle.rpm_change.proofs.Vocabulary.{apply_all, erase, erase_one, err_is, err_joins, err_none, going_end, going_more, going_start, going_stop, hand_then, in_turn}
use Rattle.rpm_change.proofs.Vocabulary.{inner, none_went, state_in}
use Rattle.rpm_change.proofs.Arguments.{turn_next, turn_none}
use Rattle.rpm_change.proofs.laws.Owing.{owing_none, owing_then}
use Rattle.rpm_change.proofs.erase.erase_each.Goals as goal

pub loop-number-init : goal.loop-number-init
loop-number-init g c =
    let s = state_in g.D.Disk c.args.disk.now c.args.db.now in
    record {
      goes = going_start g.D.Disk (erase s c.args.numbers.now)
          (none_went g.D.Disk g.met.D.Disk.follows_refl (owing_none g.D.Disk c.requires.gathering) _ _ c.requires.gathering.indexed
          (err_none g.E.Sink c.args.err.now s));
      few = refl;
      err = omega arith;
      err_rest = g.met.E.Sink.follows_refl (inner c.args.err.now);
    }

pub loop-number-preserved : goal.loop-number-preserved
loop-number-preserved g c =
    let k = c.loop-number.number-index in
    let xs = c.args.numbers.now in
    let inv = c.loop-number.invariant in
    let done = c.in_ok-tally.ensures in
    let t = state_in g.D.Disk c.loop-number.disk c.loop-number.db in
    let u = state_in g.D.Disk c.erase_one.new.disk c.erase_one.new.db in
    let turn = erase_one t k (get_or xs k 0) in
    record {
      goes = going_more g.D.Disk g.met.D.Disk.follows_trans (err_joins g.E.Sink c.args.err.now c.loop-number.err c.erase_one.new.err)
          (owing_then g.D.Disk) (λ owing told rows. owing.owes told rows) (λ owing. owing.stays) turn (in_turn erase_one u (k + 1) (drop (k + 1) xs))
          inv.goes (λ told after. turn_next erase_one xs k 0 t u (omega arith) after) (done.went k);
      few = omega (arith, inv.few, done.one);
      err = omega (arith, inv.err, done.err.cause.later);
      err_rest = g.met.E.Sink.follows_trans (inner c.args.err.now) (inner c.loop-number.err) (inner c.erase_one.new.err) inv.err_rest done.err.goes_on;
    }

pub returns-in_err-tally-clause-went : goal.returns-in_err-tally-clause-went
returns-in_err-tally-clause-went g c =
    let k = c.loop-number.number-index in
    let xs = c.args.numbers.now in
    let t = state_in g.D.Disk c.loop-number.disk c.loop-number.db in
    let turn = erase_one t k (get_or xs k 0) in
    let u = apply_all turn.changes t in
    rw (err_is c.from_residual.result c.from_residual.ensures)
    (going_stop g.D.Disk g.met.D.Disk.follows_trans (err_joins g.E.Sink c.args.err.now c.loop-number.err c.erase_one.new.err)
    (owing_then g.D.Disk) (λ owing told rows. owing.owes told rows) (λ owing. owing.stays) turn (in_turn erase_one u (k + 1) (drop (k + 1) xs))
    c.loop-number.invariant.goes (λ told. turn_next erase_one xs k 0 t u (omega arith) refl) (c.in_err-tally.ensures.went k))

pub returns-in_err-tally-clause-err : goal.returns-in_err-tally-clause-err
returns-in_err-tally-clause-err g c =
    let inv = c.loop-number.invariant in
    rw (err_is c.from_residual.result c.from_residual.ensures)
    (hand_then g.E.Sink g.met.E.Sink.follows_trans c.args.err.now c.loop-number.err c.erase_one.new.err inv.err inv.err_rest
    (λ is. cc) c.in_err-tally.ensures.err)

pub returns-clause-went : goal.returns-clause-went
returns-clause-went g c =
    going_end g.D.Disk (λ told. turn_none erase_one c.args.numbers.now c.loop-number.number-index
    (state_in g.D.Disk c.loop-number.disk c.loop-number.db) (omega arith)) c.loop-number.invariant.goes
