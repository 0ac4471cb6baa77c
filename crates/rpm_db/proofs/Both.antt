-- The log stays where another file changes, and the store stays quiet while the index does.
use Rattle.std.proofs.Common.{◌≡◌, ℕ, refl, sym, subst, arith}
use Rattle.std.specs.Prelude.{IsTrue}
use Rattle.rpm_db.proofs.Vocabulary.{bytes_for, ImageFrom, IsImageOfChange, Changes, File, Files, Idx, images, IsQuiet, leaves_weaker, Log, OnlyIn, Pkg, Runs}
use Rattle.rpm_db.proofs.Vocabulary.{SameLog, RepresentsStore, Store, Units}
use Rattle.rpm_outside.specs.declared.disk.Disk as disk

module _ {D : Type 0} (d : disk.Ghosts D) where
  abbrev Run : File → (Units → Units → Type 0) → ℕ → D → D → Type 0
  Run = Changes d

  -- the log stays where another file changes
  runs_log : (file : File) (R : Units → Units → Type 0) (most : ℕ) (a b : D) → ((x y : Units) → OnlyIn file R Log x y → y ≡ x)
      → bytes_for file Log most ≡ 0 → Run file R most a b → Runs d SameLog a b
  runs_log file R most a b only none run =
      let later : (image : Files) → IsImageOfChange file R (images d a) image → ImageFrom SameLog (images d a) image =
      λ image c. record { from = c.from; was = c.was; came = only c.from.log image.log c.log } in
      record {
        reads_as = λ told. only (d.files a).log (d.files b).log (run.log told);
        now = λ told image left. later image (run.now told image left);
        any_moment = λ told. leaves_weaker d a b (IsImageOfChange file R (images d a)) (ImageFrom SameLog (images d a)) later (run.any_moment told);
        reads = record { no_less = run.reads.no_less; log = omega (arith, run.reads.log, none) };
        goes_on = run.goes_on;
      }

  pub runs_store : (R : Units → Units → Type 0) (most : ℕ) (a b : D) → Run Pkg R most a b
      → Runs d SameLog a b
  runs_store R most a b = runs_log Pkg R most a b (λ x y same. same) refl

  pub runs_rows : (R : Units → Units → Type 0) (most : ℕ) (a b : D) → Run Idx R most a b
      → Runs d SameLog a b
  runs_rows R most a b = runs_log Idx R most a b (λ x y same. same) refl

  -- the store stays quiet while the index changes
  pub quiet_then : IsTrue d.tells → (value : Store) (S : Units → Units → Type 0) (n : ℕ) (b c : D) → Run Idx S n b c → IsQuiet value (d.files b) (images d b)
      → IsQuiet value (d.files c) (images d c)
  quiet_then told value S n b c run quiet image here =
      let s = run.now told image here in
      subst (λ (u : Units). RepresentsStore value u image.pkg) (sym (run.pkg told))
      (subst (RepresentsStore value (d.files b).pkg) (sym s.pkg) (quiet s.from s.was))
