use Rattle.std.proofs.Common.{◌∙◌, Some, None}
use Rattle.rpm_filecheck.proofs.Labelled.{text_of}
use Rattle.rpm_filecheck.proofs.labels.Labels.get.Goals as goal

pub returns-in-Some : goal.returns-in-Some
returns-in-Some c = c.deref.ensures.value
    ∙ text_of c.args.number (Some c.in-Some.text.now) c.self.inside.texts.entries c.args.self.now c.in-Some.ensures.value c.self.view_is

pub returns-in-None : goal.returns-in-None
returns-in-None c = text_of c.args.number None c.self.inside.texts.entries c.args.self.now c.in-None.ensures.value c.self.view_is
