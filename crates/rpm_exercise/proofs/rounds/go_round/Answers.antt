use Rattle.std.proofs.Common.{◌+◌, ◌-◌, arith, ap}
use Rattle.rpm_exercise.proofs.Vocabulary.{err_is, flat_map, going_begin, going_end, going_more, going_stop, course_of_changes, none_went, owing_none}
use Rattle.rpm_exercise.proofs.Vocabulary.{owing_then, quiet_joins, quiet_none, range_with_len, round_changes, round_turn}
use Rattle.rpm_exercise.proofs.Parts.{each_next, each_none, each_all}
use Rattle.rpm_exercise.proofs.Through.{none_failed}
use Rattle.rpm_exercise.proofs.rounds.go_round.Goals as goal

pub loop-done-init : goal.loop-done-init
loop-done-init g c =
    let f = round_turn c.args.round c.args.b in
    record {
      goes =
          going_begin g.D.Disk (course_of_changes (round_changes c.args.round c.args.b c.args.n))
          (course_of_changes (flat_map f (range_with_len 1 (c.args.n - 0))))
          (λ told. ap course_of_changes (each_all f c.args.n)) (none_went g.D.Disk g.met.D.Disk.follows_refl (owing_none g.D.Disk c.requires.gathering) _ _
          c.requires.gathering.indexed (quiet_none _));
      few = omega arith;
    }

pub loop-done-preserved : goal.loop-done-preserved
loop-done-preserved g c =
    let k = c.loop-done.done in
    let n = c.args.n in
    let f = round_turn c.args.round c.args.b in
    let one = c.in_ok-tally.ensures in
    record {
      goes = going_more g.D.Disk g.met.D.Disk.follows_trans quiet_joins (owing_then g.D.Disk) (λ owing told rows. owing.owes told rows) (λ owing. owing.stays)
          (course_of_changes (f (k + 1))) (course_of_changes (flat_map f (range_with_len (k + 1 + 1) (n - (k + 1))))) c.loop-done.invariant.goes
          (λ told after. ap course_of_changes (each_next f (k + 1) n k (omega arith))) (none_failed g.D.Disk (f (k + 1)) c.in_ok-tally.tally one.went.course);
      few = omega (arith, c.loop-done.invariant.few, one.few);
    }

pub returns-in_err-tally-clause-went : goal.returns-in_err-tally-clause-went
returns-in_err-tally-clause-went g c =
    let k = c.loop-done.done in
    let n = c.args.n in
    let f = round_turn c.args.round c.args.b in
    let said = c.in_err-tally.ensures.went in
    rw (err_is c.from_residual.result c.from_residual.ensures) (record {
      course = going_stop g.D.Disk g.met.D.Disk.follows_trans quiet_joins (owing_then g.D.Disk) (λ owing told rows. owing.owes told rows) (λ owing. owing.stays)
          (course_of_changes (f (k + 1))) (course_of_changes (flat_map f (range_with_len (k + 1 + 1) (n - (k + 1))))) c.loop-done.invariant.goes
          (λ told. ap course_of_changes (each_next f (k + 1) n k (omega arith))) said.course;
      spent = said.spent;
      kinds = said.kinds;
    })

pub returns-clause-went : goal.returns-clause-went
returns-clause-went g c = record {
  course =
      going_end g.D.Disk (λ told. ap course_of_changes (each_none (round_turn c.args.round c.args.b) (c.loop-done.done + 1) c.args.n c.loop-done.done
      (omega arith)))
      c.loop-done.invariant.goes;
  spent = tt;
  kinds = tt;
}
