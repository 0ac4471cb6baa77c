use Rattle.std.proofs.Common.{◌≡◌, ◌≤◌, ◌++◌, length, drop}
use Rattle.rpm_command.proofs.Vocabulary.{filter_map, number, word_at}
use Rattle.rpm_command.proofs.task.numbers_of.Given as goal

abbrev pub invariant-loop-k : goal.invariant-loop-k
invariant-loop-k l = record {
  numbers : l.numbers.items ++ filter_map (λ w. number (word_at l.words w)) (drop l.k l.ask.arguments)
      ≡ filter_map (λ w. number (word_at l.words w)) l.ask.arguments;
  few : length l.numbers.items ≤ l.k;
}
