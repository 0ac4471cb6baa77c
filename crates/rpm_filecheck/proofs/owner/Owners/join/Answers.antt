use Rattle.std.proofs.Common.{sym, ap, ◌∙◌}
use Rattle.rpm_filecheck.proofs.Vocabulary.{last_from, Owner}
use Rattle.rpm_filecheck.proofs.Joining.{last_from-append}
use Rattle.rpm_filecheck.proofs.owner.Owners.join.Goals as goal

pub invariant_of-self-2 : goal.invariant_of-self-2
invariant_of-self-2 c =
    ap (λ (o : Owner). o.number) c.owner.view_is
    ∙ sym (ap (last_from c.self.inside.first.number) c.in_ok-push.ensures.items
    ∙ last_from-append c.self.inside.first.number c.self.inside.others.items c.args.owner)
