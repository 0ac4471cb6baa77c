use Rattle.std.proofs.Common.{◌≡◌, ℕ, List, [], length}
use Rattle.std.specs.Prelude.{IsTrue}
use Rattle.rpm_history.proofs.Vocabulary.{between, calls_of, InTurn, LineIs, vec_capacity, vec_len}
use Rattle.rpm_history.proofs.several.run_each.Given as goal

abbrev pub invariant-loop-line : goal.invariant-loop-line
invariant-loop-line g l = record {
  count : length l.outcomes.items ≡ l.line-index;
  as_many : vec_len l.outcomes ≡ l.line-index;
  room : vec_capacity l.outcomes ≡ length l.lines;
  paths : IsTrue g.S.Shelf.tells → g.S.Shelf.paths l.shelf ≡ g.S.Shelf.paths l.initial.shelf;
  ran : (given : List ℕ)
      × InTurn (LineIs g.D.Disk g.S.Shelf g.O.Sink g.E.Sink (g.S.Shelf.paths l.initial.shelf)) (calls_of l.lines l.outcomes.items)
      (between l.initial.disk l.initial.shelf l.initial.out l.initial.err []) (between l.disk l.shelf l.out l.err given);
}
