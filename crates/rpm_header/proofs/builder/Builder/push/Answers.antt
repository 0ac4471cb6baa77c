use Rattle.rpm_header.proofs.Vocabulary.{ReadsBack}
use Rattle.rpm_header.proofs.TextsAgain.{all_push}
use Rattle.rpm_header.proofs.builder.Builder.push.Goals as goal

pub invariant_of-self-2 : goal.invariant_of-self-2
invariant_of-self-2 c = rw c.in_ok-push.ensures.items (all_push ReadsBack c.self.inside.entries.items c.args.entry c.self.invariant c.requires)
