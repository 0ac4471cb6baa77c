use Rattle.std.proofs.Common.{◌<◌, length, arith, refl}
use Rattle.rpm_words.proofs.Vocabulary.{seen}
use Rattle.rpm_words.proofs.Seens.{seen_step}
use Rattle.rpm_words.proofs.seen.seen_in.Goals as goal

pub loop-token-init : goal.loop-token-init
unfolding seen
loop-token-init c = refl

pub loop-token-preserved : goal.loop-token-preserved
loop-token-preserved c =
    let lt : c.loop-token.token-index < length c.args.tokens.now = omega arith in
    seen_step _ _ _ _ _ _ _ lt c.with-seen.ensures c.loop-token.invariant
