use Rattle.std.proofs.Common.{◌≡◌, drop}
use Rattle.rpm_words.proofs.Vocabulary.{first_misplaced}
use Rattle.rpm_words.proofs.broken.misplaced.Given as goal

abbrev pub invariant-loop-token : goal.invariant-loop-token
invariant-loop-token l = first_misplaced l.command (drop l.token-index l.tokens) ≡ first_misplaced l.command l.tokens
