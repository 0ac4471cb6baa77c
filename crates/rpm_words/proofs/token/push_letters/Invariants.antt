use Rattle.std.proofs.Common.{◌≡◌, ◌++◌, drop}
use Rattle.rpm_words.proofs.Vocabulary.{letters}
use Rattle.rpm_words.proofs.token.push_letters.Given as goal

abbrev pub invariant-loop-byte : goal.invariant-loop-byte
invariant-loop-byte l = l.tokens.items ++ letters l.word (drop l.byte-index l.text) ≡ l.initial.tokens.items ++ letters l.word l.text
