use Rattle.std.proofs.Common.{◌≡◌, ◌++◌, drop, map}
use Rattle.std.specs.Prelude.{All, filter}
use Rattle.rpm_check.proofs.Vocabulary.{BeginsUpTo, edge, is_end, Rises}
use Rattle.rpm_check.proofs.Joining.{IsBehind}
use Rattle.rpm_check.proofs.edges.push_edges.Given as goal

abbrev pub invariant-loop-to : goal.invariant-loop-to
invariant-loop-to l = record {
  numbers : l.graph.numbers ≡ l.initial.graph.numbers;
  rises : Rises (drop l.to-index l.ends);
  low : All (BeginsUpTo l.from) l.graph.edges;
  behind : All (IsBehind l.from (drop l.to-index l.ends)) l.graph.edges;
  told : l.graph.edges ++ map (edge l.from) (filter (is_end l.initial.graph.numbers l.from) (drop l.to-index l.ends))
      ≡ l.initial.graph.edges ++ map (edge l.from) (filter (is_end l.initial.graph.numbers l.from) l.ends);
}
