use Rattle.std.proofs.Common.{◌<◌, ℕ, length, ap, subst, sym, ◌∙◌}
use Rattle.rpm_tags.proofs.Paths.{length_files, same_length}
use Rattle.rpm_tags.proofs.files.Files.need_room.Goals as goal

pub returns-then-count-gt16 : goal.returns-then-count-gt16
returns-then-count-gt16 c = λ goes_back.
    let files = length_files c.self.inside.dirs c.self.inside.indexes c.self.inside.bases c.self.invariant in
    let same = same_length c.self.inside.dirs c.self.inside.indexes c.self.inside.bases c.self.invariant in
    let many : 16 < length c.self.inside.indexes = c.go_back.ensures goes_back in
    subst (λ (n : ℕ). 16 < n) (sym same ∙ sym files ∙ ap length c.self.view_is) many
