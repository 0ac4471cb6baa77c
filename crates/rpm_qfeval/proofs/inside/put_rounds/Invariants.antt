use Rattle.std.proofs.Common.{◌≡◌, ◌-◌, map}
use Rattle.rpm_qfeval.proofs.Vocabulary.{bytes, concat, range_with_len, Upto}
use Rattle.rpm_qfeval.proofs.inside.put_rounds.Given as goal

abbrev pub invariant-loop-round : goal.invariant-loop-round
invariant-loop-round g l = record {
  columns : l.columns ≡ l.initial.columns;
  ready : l.ready ≡ l.initial.ready;
  upto : Upto g.O.Sink
      (concat (map (λ j. bytes l.view l.number j l.inner) (range_with_len 0 l.count)))
      (concat (map (λ j. bytes l.view l.number j l.inner) (range_with_len l.round (l.count - l.round)))) l.initial.sink l.sink;
}
