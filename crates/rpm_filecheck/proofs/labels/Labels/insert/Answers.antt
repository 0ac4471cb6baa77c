use Rattle.std.proofs.Common.{◌∙◌, ap}
use Rattle.rpm_filecheck.proofs.Vocabulary.{Labels, nat_cmp, put}
use Rattle.std.proofs.lemmas.Result.{on_ok_weaker}
use Rattle.rpm_filecheck.proofs.Labelled.{seen, seen-put}
use Rattle.rpm_filecheck.proofs.labels.Labels.insert.Goals as goal

pub returns : goal.returns
returns c = on_ok_weaker c.insert.result (λ is.
    ap seen is ∙ seen-put c.args.number c.args.text c.self.inside.texts.entries
    ∙ ap (λ (es : Labels). put nat_cmp c.args.number c.args.text.items es) c.self.view_is) c.insert.ensures
