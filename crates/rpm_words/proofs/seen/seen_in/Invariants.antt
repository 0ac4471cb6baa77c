use Rattle.std.proofs.Common.{◌≡◌, drop}
use Rattle.rpm_words.proofs.Vocabulary.{seen}
use Rattle.rpm_words.proofs.Seens.{seen_behind}
use Rattle.rpm_words.proofs.seen.seen_in.Given as goal

abbrev pub invariant-loop-token : goal.invariant-loop-token
invariant-loop-token l = seen_behind l.words l.seen (drop l.token-index l.tokens) ≡ seen l.words l.tokens
