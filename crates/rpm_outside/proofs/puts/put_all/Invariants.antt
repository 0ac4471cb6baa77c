use Rattle.std.proofs.Common.{length, ◌-◌, ◌≤◌, take}
use Rattle.rpm_outside.proofs.Vocabulary.{GainIs}
use Rattle.rpm_outside.proofs.puts.put_all.Given as goal

abbrev pub invariant-loop-done : goal.invariant-loop-done
invariant-loop-done g l = record {
  within : l.done ≤ length l.bytes;
  faults : g.O.Sink.faults l.initial.sink ≤ g.O.Sink.faults l.sink;
  taken : GainIs g.O.Sink.tells (g.O.Sink.taken l.initial.sink) (g.O.Sink.taken l.sink) (take l.done l.bytes);
  goes_on : g.O.Sink.follows l.initial.sink l.sink;
}

abbrev pub decreases-loop-done : goal.decreases-loop-done
decreases-loop-done g l = length l.bytes - l.done
