use Rattle.std.proofs.Common.{ℕ, List, Some, sym, ap, ◌∙◌}
use Rattle.rpm_pkgdb.proofs.Vocabulary.{AnswerIs, blobs, frame_in, given_blob}
use Rattle.std.specs.FinMap as finite
use Rattle.rpm_pkgdb.proofs.Changing.{err_given}
use Rattle.rpm_pkgdb.proofs.Told.{at_frames, fault_told}
use Rattle.rpm_pkgdb.proofs.store.PkgDb.read_checked_in.Goals as goal

pub returns-in_err-blocks-clause-blob : goal.returns-in_err-blocks-clause-blob
returns-in_err-blocks-clause-blob g c = λ told.
    let file = (g.D.Disk.files c.args.disk.now).pkg in
    let st = c.args.self.now in
    err_given (AnswerIs given_blob (finite.get (blobs file st) c.args.n)) _ c.from_residual.result c.from_residual.ensures
    (fault_told file st c.args.n given_blob _ (c.in_err-blocks.ensures.told told))

pub returns-clause-blob : goal.returns-clause-blob
returns-clause-blob g c = λ told.
    at_frames (g.D.Disk.files c.args.disk.now).pkg c.args.self.now c.args.n (Some (Some (frame_in c.in_ok-blocks.blocks))) (c.in_ok-blocks.ensures.told told)
    ∙ ap (λ (bytes : List ℕ). Some (Some bytes)) (sym c.into_checked.ensures.blob)
