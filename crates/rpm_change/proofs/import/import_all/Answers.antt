use Rattle.std.proofs.Common.{◌≡◌, ◌+◌, true, false, refl, arith, ◌∙◌}
use Rattle.rpm_change.proofs.Vocabulary.{err_is, err_joins, err_none, from_place, going_end, going_more, going_start, going_stop, hand_then}
use Rattle.rpm_change.proofs.Vocabulary.{inner, bytes_left, list_course, list_head, none_went, state_in, turn}
use Rattle.rpm_change.proofs.Listed.{turn_splits, turn_ahead, within_next}
use Rattle.rpm_change.proofs.laws.Owing.{owing_none, owing_then}
use Rattle.rpm_change.proofs.import.import_all.Goals as goal

pub loop-is_last-init : goal.loop-is_last-init
loop-is_last-init g c =
    record {
      goes = going_start g.D.Disk (list_course c.args.most 1 (bytes_left (g.S.Shelf.rest c.args.shelf.now)))
          (none_went g.D.Disk g.met.D.Disk.follows_refl (owing_none g.D.Disk c.requires.gathering) _ _ c.requires.gathering.indexed
          (err_none g.E.Sink c.args.err.now (state_in g.D.Disk c.args.disk.now c.args.db.now)));
      few = omega arith;
      within = λ going. omega arith;
      below = omega arith;
      paths = λ told. refl;
      shelf = omega arith;
      err = omega arith;
      err_rest = g.met.E.Sink.follows_refl (inner c.args.err.now);
    }

pub loop-is_last-preserved : goal.loop-is_last-preserved
loop-is_last-preserved g c =
    let most = c.args.most in
    let k = c.loop-is_last.place in
    let inv = c.loop-is_last.invariant in
    let done = c.in_ok-turn.ensures in
    let going : c.loop-is_last.is_last ≡ false = cc in
    let bytes = bytes_left (g.S.Shelf.rest c.loop-is_last.shelf) in
    let behind = bytes_left (g.S.Shelf.rest c.import_next.new.shelf) in
    let is_last = c.in_ok-turn.turn.is_last in
    record {
      goes = going_more g.D.Disk g.met.D.Disk.follows_trans (err_joins g.E.Sink c.args.err.now c.loop-is_last.err c.import_next.new.err)
          (owing_then g.D.Disk) (λ owing both rows. owing.owes both.0 rows) (λ owing. owing.stays) (turn most k (list_head bytes))
          (from_place is_last most (k + 1) behind) (rw going at inv.goes)
          (λ both after. turn_splits most k bytes is_last behind (done.leaves both.1)) done.went;
      few = omega (arith, inv.few, done.one);
      within = λ more. within_next most k is_last more done.last;
      below = omega (arith, inv.within going);
      paths = λ told. done.shelf.paths told ∙ inv.paths told;
      shelf = omega (arith, inv.shelf, done.shelf.cause.later);
      err = omega (arith, inv.err, done.err.cause.later);
      err_rest = g.met.E.Sink.follows_trans (inner c.args.err.now) (inner c.loop-is_last.err) (inner c.import_next.new.err) inv.err_rest done.err.goes_on;
    }

pub returns-in_err-turn-clause-went : goal.returns-in_err-turn-clause-went
returns-in_err-turn-clause-went g c =
    let most = c.args.most in
    let k = c.loop-is_last.place in
    let going : c.loop-is_last.is_last ≡ false = cc in
    let bytes = bytes_left (g.S.Shelf.rest c.loop-is_last.shelf) in
    let split = turn_ahead most k (list_head bytes) in
    rw (err_is c.from_residual.result c.from_residual.ensures)
    (going_stop g.D.Disk g.met.D.Disk.follows_trans (err_joins g.E.Sink c.args.err.now c.loop-is_last.err c.import_next.new.err)
    (owing_then g.D.Disk) (λ owing both rows. owing.owes both.0 rows) (λ owing. owing.stays) (turn most k (list_head bytes))
    (from_place split.0 most (k + 1) split.1.0) (rw going at c.loop-is_last.invariant.goes)
    (λ both. turn_splits most k bytes split.0 split.1.0 split.1.1) c.in_err-turn.ensures.went)

pub returns-in_err-turn-clause-err : goal.returns-in_err-turn-clause-err
returns-in_err-turn-clause-err g c =
    let inv = c.loop-is_last.invariant in
    rw (err_is c.from_residual.result c.from_residual.ensures)
    (hand_then g.E.Sink g.met.E.Sink.follows_trans c.args.err.now c.loop-is_last.err c.import_next.new.err inv.err inv.err_rest
    (λ is. cc) c.in_err-turn.ensures.err)

pub returns-clause-went : goal.returns-clause-went
returns-clause-went g c =
    let past : c.loop-is_last.is_last ≡ true = cc in
    going_end g.D.Disk (λ both. refl) (rw past at c.loop-is_last.invariant.goes)
