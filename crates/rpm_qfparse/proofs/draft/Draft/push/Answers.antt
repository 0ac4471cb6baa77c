use Rattle.std.proofs.Common.{◌∙◌}
use Rattle.rpm_qfparse.proofs.Vocabulary.{in_front}
use Rattle.rpm_qfparse.proofs.Drafts.{apart, pushed}
use Rattle.rpm_qfparse.proofs.draft.Draft.push.Goals as goal

pub returns : goal.returns
returns c = λ rest.
    pushed c.flush.new.self.parts.items c.push.new.self.items c.flush.new.self.text.items c.args.part rest c.in_ok-flush.ensures.text c.in_ok-push.ensures.items
    ∙ c.in_ok-flush.ensures.same (in_front c.args.part rest) (apart c.args.part rest c.requires)
