use Rattle.std.proofs.Common.{◌≡◌, length}
use Rattle.rpm_qfeval.proofs.Vocabulary.{StandReady}
use Rattle.rpm_qfeval.proofs.ready.make_ready.Given as goal

abbrev pub invariant-loop-i : goal.invariant-loop-i
invariant-loop-i g l = record {
  size : length l.ready.items ≡ l.i;
  each : StandReady l.view l.number l.inner l.ready.items;
}
