use Rattle.std.proofs.Common.{◌-◌, ◌≤◌, length, arith}
use Rattle.std.proofs.lemmas.List.{length-take, length-drop}
use Rattle.rpm_outside.proofs.Vocabulary.{taken_more}
use Rattle.rpm_outside.proofs.puts.put_all.Goals as goal

pub loop-done-preserved : goal.loop-done-preserved
loop-done-preserved g c =
    let raw = simp (length-take, length-drop) at c.in_ok-done.ensures.some.1 in
    let fits : c.in_ok-done.field-0 ≤ length c.args.bytes.now - c.loop-done.done = omega arith in
    record {
      within = omega arith;
      faults = omega (arith, c.write.ensures.cause.later);
      taken = taken_more g.O.Sink.tells (g.O.Sink.taken c.args.sink.now) (g.O.Sink.taken c.loop-done.sink) (g.O.Sink.taken c.write.new.self)
          c.args.bytes.now c.loop-done.done c.in_ok-done.field-0 fits c.loop-done.invariant.taken c.in_ok-done.ensures.taken;
      goes_on = g.met.O.Sink.follows_trans c.args.sink.now c.loop-done.sink c.write.new.self c.loop-done.invariant.goes_on c.write.ensures.follows;
    }
