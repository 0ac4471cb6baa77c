use Rattle.std.proofs.Common.{◌∙◌, sym, ap, length}
use Rattle.rpm_tags.proofs.Paths.{length_files}
use Rattle.rpm_tags.proofs.files.Files.count.Goals as goal

pub returns-clause-value : goal.returns-clause-value
returns-clause-value c =
    c.count.ensures.value ∙ sym (length_files c.self.inside.dirs c.self.inside.indexes c.self.inside.bases c.self.invariant) ∙ ap length c.self.view_is
