use Rattle.std.proofs.Common.{◌∙◌, ap}
use Rattle.rpm_qfparse.proofs.Vocabulary.{onto, with_draft_text}
use Rattle.rpm_qfparse.proofs.Drafts.{with_text_push}
use Rattle.rpm_qfparse.proofs.draft.Draft.push_byte.Goals as goal

pub returns : goal.returns
returns c = λ rest. ap (onto c.args.self.now.parts.items) (ap (λ t. with_draft_text t rest) c.in_ok-push.ensures.items ∙ with_text_push
    c.args.self.now.text.items c.args.byte rest)
