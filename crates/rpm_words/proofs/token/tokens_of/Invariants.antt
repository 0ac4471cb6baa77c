use Rattle.std.proofs.Common.{◌≡◌, ◌++◌, drop}
use Rattle.rpm_words.proofs.Vocabulary.{said_tokens, said_behind}
use Rattle.rpm_words.proofs.token.tokens_of.Given as goal

abbrev pub invariant-loop-i : goal.invariant-loop-i
invariant-loop-i l = l.tokens.items ++ said_behind l.program l.purpose l.i (drop l.i l.words) ≡ said_tokens l.program l.words
