-- What crashes leave while the index gets the rows that it is owed.
use Rattle.std.proofs.Common.{◌≡◌, ℕ, ◌≤◌, sym, ap, ◌∙◌, subst}
use Rattle.std.specs.Prelude.{IsTrue}
use Rattle.std.specs.FinMap as finite
use Rattle.rpm_db.proofs.Vocabulary.{AreLawful, AreOfRows, ImageFrom, IsImageOfChange, Changes, Files, Idx, images, IndexTo, IsLawful}
use Rattle.rpm_db.proofs.Vocabulary.{IsLawfulStill, IsQuiet, IsDurable, KeepsStore, leaves_then, leaves_weaker, CrashLeaves, nat_cmp, Package, packages}
use Rattle.rpm_db.proofs.Vocabulary.{packages-blobs, packages_of, rows, Runs, SameFiles, sealed_generation, Store, unit_at, Units, Work}
use Rattle.rpm_db.proofs.Vocabulary.{WritesRows}
use Rattle.rpm_outside.specs.declared.disk.Disk as disk
use Rattle.rpm_pkgdb.proofs.ErasesTo.{stands_for}
use Rattle.rpm_db.proofs.Changed.{filled_lawful}

-- each image of a quiet store has its rows
pub rows_quiet : (value : Store) (files : Files) (images : Files → Type 0) → KeepsStore files.pkg value → 1 ≤ value.pages → IsQuiet value files images
    → AreOfRows value.generation (packages files.pkg value) images
rows_quiet value files images keeps made quiet image here =
    let s = stands_for value files.pkg image.pkg made keeps (quiet image here) in
    record {
      value = s.value;
      undamaged = s.undamaged;
      generation_is = s.generation_is;
      rows_are = ap rows (packages-blobs files.pkg value ∙ sym (packages-blobs image.pkg s.value ∙ ap packages_of s.blobs_are));
    }

module _ {D : Type 0} (d : disk.Ghosts D) where
  -- nothing is written yet
  pub still_lawful : (a b : D) → IsTrue d.tells → AreLawful (images d a) → Runs d SameFiles a b
      → CrashLeaves d a b (IsLawfulStill (images d a))
  still_lawful a b told lawful run = leaves_weaker d a b (ImageFrom SameFiles (images d a)) (IsLawfulStill (images d a)) (λ image c. record {
    from = c.from;
    was = c.was;
    pkg = ap (λ (f : Files). f.pkg) c.came;
    log = ap (λ (f : Files). f.log) c.came;
    lawful = subst (λ (f : Files). IsLawful f.pkg f.idx) (sym c.came) (lawful c.from c.was);
  }) (run.any_moment told)

  -- and then the rows of these packages
  pub crashes_filled : (a b c : D) → IsTrue d.tells → AreLawful (images d a) → Runs d SameFiles a b
      → (generation : ℕ) (work : Work) (to : finite.FinMap nat_cmp Package) → IsDurable Idx (d.files a) (images d a)
      → (sealed_generation (unit_at (d.files a).idx 0) ≡ generation → ⊥) → AreOfRows generation to (images d a) → WritesRows (rows to) work (d.files a).idx
      → Changes d Idx (IndexTo generation work (d.files b).idx) 0 b c
      → CrashLeaves d a c (IsLawfulStill (images d a))
  crashes_filled a b c told lawful run generation work to durable apart of writes change =
      leaves_then d a b c (IsLawfulStill (images d a)) (still_lawful a b told lawful run)
      (leaves_weaker d b c (IsImageOfChange Idx (IndexTo generation work (d.files b).idx) (images d b)) (IsLawfulStill (images d a)) (λ image s.
      (let m = run.now told s.from s.was in
      let pkg : image.pkg ≡ m.from.pkg = s.pkg ∙ ap (λ (f : Files). f.pkg) m.came in
      let idx : s.from.idx ≡ (d.files a).idx = ap (λ (f : Files). f.idx) m.came ∙ durable m.from m.was in
      record {
        from = m.from;
        was = m.was;
        pkg = pkg;
        log = s.log ∙ ap (λ (f : Files). f.log) m.came;
        lawful = subst (λ (u : Units). IsLawful u image.idx) (sym pkg)
            (filled_lawful generation work (d.files a).idx to writes apart m.from.pkg s.from.idx image.idx idx (of m.from m.was)
            (subst (λ (f : Files). IndexTo generation work f.idx s.from.idx image.idx) (run.reads_as told) s.idx)
            (subst (λ (f : Files). IsLawful m.from.pkg f.idx) (sym m.came) (lawful m.from m.was)));
      })) (change.any_moment told))
