use Rattle.std.proofs.Common.{arith}
use Rattle.rpm_words.proofs.Tokens.{tokens_begin, tokens_step, tokens_end}
use Rattle.rpm_words.proofs.token.tokens_of.Goals as goal

pub loop-i-init : goal.loop-i-init
loop-i-init c = tokens_begin _ _ _ c.new-tokens.ensures.items

pub loop-i-preserved : goal.loop-i-preserved
loop-i-preserved c = tokens_step _ _ _ _ _ _ _ _ _ c.word-text.ensures c.purpose_behind-purpose.ensures c.in_ok-push_tokens.ensures c.loop-i.invariant

pub returns-clause-tokens : goal.returns-clause-tokens
returns-clause-tokens c = tokens_end _ _ _ _ _ _ (omega arith) c.loop-i.invariant
