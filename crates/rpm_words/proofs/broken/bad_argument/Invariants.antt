use Rattle.std.proofs.Common.{◌≡◌, drop}
use Rattle.rpm_words.proofs.Vocabulary.{bad_argument}
use Rattle.rpm_words.proofs.broken.bad_argument.Given as goal

abbrev pub invariant-loop-word : goal.invariant-loop-word
invariant-loop-word l = bad_argument l.words l.expected (drop l.word-index l.arguments) ≡ bad_argument l.words l.expected l.arguments
