use Rattle.std.proofs.Common.{◌≡◌, inr, ℕ, refl, sym, subst, ◌∙◌}
use Rattle.rpm_group.proofs.Vocabulary.{File, file_of, Files, with_units, torn_file_none, torn_file_whole, TornFile, Units, units_of, with_file}
use Rattle.rpm_group.proofs.overlay.OverlayDisk.write_at.Goals as goal

-- where nothing was written
module _ (file : File) (at : ℕ) (units : Units) (old new : Files) (same : new ≡ old) where
  none_torn : TornFile file at units old new
  none_torn = subst (λ (f : Files). TornFile file at units old f) (sym same) (torn_file_none file at units old)

  none_images : (image : Files) → image ≡ new → (from : Files) × (from ≡ old) × TornFile file at units from image
  none_images image is = (old, refl, subst (λ (f : Files). TornFile file at units old f) (sym is) none_torn)

-- where all was
module _ (file : File) (at : ℕ) (units : Units) (old new : Files) (written : new ≡ with_file file (with_units at units (file_of file old)) old) where
  all_torn : TornFile file at units old new
  all_torn = subst (λ (f : Files). TornFile file at units old f) (sym written) (torn_file_whole file at units old)

  all_images : (image : Files) → image ≡ new → (from : Files) × (from ≡ old) × TornFile file at units from image
  all_images image is = (old, refl, subst (λ (f : Files). TornFile file at units old f) (sym is) all_torn)

pub returns-in_default-clause-stays : goal.returns-in_default-clause-stays
returns-in_default-clause-stays g c = λ told.
    let same = c.in_default.ensures.err (g.D.Disk.files c.args.self.now.below) in
    inr (refl, record { same = same; images = λ t image is. is ∙ same; kept = λ t image is. is ∙ sym same })

pub returns-in_default-clause-torn : goal.returns-in_default-clause-torn
returns-in_default-clause-torn g c = λ told. none_torn c.args.file c.args.unit (units_of c.args.bytes.now) _ _
    (c.in_default.ensures.err (g.D.Disk.files c.args.self.now.below))

pub returns-in_default-clause-images : goal.returns-in_default-clause-images
returns-in_default-clause-images g c = λ told image is. none_images c.args.file c.args.unit (units_of c.args.bytes.now) _ _
    (c.in_default.ensures.err (g.D.Disk.files c.args.self.now.below)) image is

pub returns-clause-torn : goal.returns-clause-torn
returns-clause-torn g c = λ told. all_torn c.args.file c.args.unit (units_of c.args.bytes.now) _ _ (c.in-Ok.ensures.ok (g.D.Disk.files c.args.self.now.below))

pub returns-clause-images : goal.returns-clause-images
returns-clause-images g c = λ told image is. all_images c.args.file c.args.unit (units_of c.args.bytes.now) _ _
    (c.in-Ok.ensures.ok (g.D.Disk.files c.args.self.now.below)) image is
