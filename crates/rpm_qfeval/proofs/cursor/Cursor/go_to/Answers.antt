use Rattle.rpm_qfeval.proofs.cursor.Cursor.go_to.Goals as goal

pub loop-self-preserved : goal.loop-self-preserved
loop-self-preserved c = record {
  same = c.loop-self.invariant.same;
  at = c.step.ensures c.loop-self.self-inside.value.now c.loop-self.self-inside.place c.loop-self.invariant.at;
}
