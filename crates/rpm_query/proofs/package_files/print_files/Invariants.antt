use Rattle.std.proofs.Common.{◌≡◌, ◌≤◌}
use Rattle.std.specs.Prelude.{IsTrue}
use Rattle.rpm_query.proofs.Vocabulary.{file_part, inner, word_at}
use Rattle.rpm_query.proofs.Turns.{Turned}
use Rattle.rpm_query.proofs.package_files.print_files.Given as goal

abbrev pub invariant-loop-k : goal.invariant-loop-k
invariant-loop-k g l = record {
  paths : IsTrue g.S.Shelf.tells → g.S.Shelf.paths l.shelf ≡ g.S.Shelf.paths l.initial.shelf;
  shelf : g.S.Shelf.faults l.initial.shelf ≤ g.S.Shelf.faults l.shelf;
  out : g.O.Sink.faults (inner l.initial.out) ≤ g.O.Sink.faults (inner l.out);
  err : g.E.Sink.faults (inner l.initial.err) ≤ g.E.Sink.faults (inner l.err);
  out_rest : g.O.Sink.follows (inner l.initial.out) (inner l.out);
  err_rest : g.E.Sink.follows (inner l.initial.err) (inner l.err);
  few : l.failed ≤ l.k;
  turned : IsTrue g.S.Shelf.tells → Turned g.O.Sink.tells g.E.Sink.tells (file_part l.format (g.S.Shelf.paths l.initial.shelf)) (word_at l.words)
      l.ask.arguments l.k l.failed (g.O.Sink.taken (inner l.initial.out)) (g.E.Sink.taken (inner l.initial.err)) (g.O.Sink.taken (inner l.out))
      (g.E.Sink.taken (inner l.err));
}
