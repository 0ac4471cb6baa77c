use Rattle.std.proofs.Common.{ℕ, max, length, sym, ◌∙◌, ap}
use Rattle.rpm_group.proofs.Vocabulary.{file_of, file_of-laid, Pages, pages_of}
use Rattle.rpm_group.proofs.Laids.{length-laid}
use Rattle.rpm_group.proofs.overlay.OverlayDisk.len.Goals as goal

pub returns-clause-length : goal.returns-clause-length
returns-clause-length g c = λ told.
    let layers = c.args.self.now.held in
    let files = g.D.Disk.files c.args.self.now.below in
    let file = c.args.file in
    let pages = pages_of file layers in
    c.max.ensures
    ∙ ap (λ (p : Pages). max c.in_ok-below.below p.end) c.file.ensures
    ∙ ap (λ (n : ℕ). max n pages.end) (c.in_ok-below.ensures.length told)
    ∙ sym (length-laid pages.table.items pages.end (file_of file files))
    ∙ ap length (sym (file_of-laid file layers files))
