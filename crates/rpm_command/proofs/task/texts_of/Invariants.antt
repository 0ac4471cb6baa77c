use Rattle.std.proofs.Common.{◌≡◌, ◌≤◌, ◌++◌, map, length, drop}
use Rattle.rpm_command.proofs.Vocabulary.{word_at}
use Rattle.rpm_command.proofs.task.texts_of.Given as goal

abbrev pub invariant-loop-k : goal.invariant-loop-k
invariant-loop-k l = record {
  texts : map (λ text. text.now) l.texts.items ++ map (word_at l.words) (drop l.k l.ask.arguments) ≡ map (word_at l.words) l.ask.arguments;
  few : length l.texts.items ≤ l.k;
}
