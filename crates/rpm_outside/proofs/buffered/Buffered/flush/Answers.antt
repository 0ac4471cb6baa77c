use Rattle.std.proofs.Common.{◌-◌, ◌≤◌, length, arith}
use Rattle.std.proofs.lemmas.List.{length-take, length-drop}
use Rattle.rpm_outside.proofs.Vocabulary.{held_bytes, inner}
use Rattle.rpm_outside.proofs.Buffering.{handed_more}
use Rattle.rpm_outside.proofs.buffered.Buffered.flush.Goals as goal

pub loop-self-preserved : goal.loop-self-preserved
loop-self-preserved g c =
    let raw = simp (length-take, length-drop) at c.in_ok-self.ensures.some.1 in
    let fits : c.in_ok-self.field-0 ≤ length c.as_slice.result.now - c.loop-self.self.gone = omega arith in
    let goes = g.met.O.Sink.follows_trans (inner c.args.self.now) c.loop-self.self.sink c.write.new.self c.loop-self.invariant.goes_on
    c.write.ensures.follows in
    handed_more g.O.Sink (inner c.args.self.now) c.loop-self.self.sink c.write.new.self
    (held_bytes c.args.self.now) c.loop-self.self.held.items c.as_slice.result.now c.loop-self.self.gone c.in_ok-self.field-0 c.as_slice.ensures.value
    fits c.loop-self.invariant c.in_ok-self.ensures.taken c.write.ensures.cause.later goes
