use Rattle.std.proofs.Common.{◌++◌, [], ◌∷◌, ◌∙◌, ap}
use Rattle.std.proofs.lemmas.List.{replicate_more}
use Rattle.rpm_outside.proofs.Vocabulary.{blank, Units}
use Rattle.rpm_outside.proofs.steps.blanks.Goals as goal

pub loop-preserved : goal.loop-preserved
unfolding blank
loop-preserved c = c.in_ok-push.ensures.items ∙ ap (λ (us : Units). us ++ blank ∷ []) c.loop.invariant ∙ replicate_more c.loop.counter blank
