-- What calls on an overlay keep of the disk below.
use Rattle.std.specs.Prelude.{◌≡◌, ℕ, ◌+◌, ◌≤◌, IsTrue}
use Rattle.rpm_outside.specs.declared.disk.Disk as disk
use Rattle.std.proofs.Common.{refl, ◌∙◌, arith}
use Rattle.rpm_outside.specs.declared.disk.File.{File}
use Rattle.rpm_outside.specs.Files.{Files}

-- the disk below has the same contents, images and moment, of each file at most as many bytes were read there as here,
-- it follows itself, and its count of faults didn't fall
pub record KeepsBelow {D : Type 0} (g : disk.Ghosts D) (old new : D) (read_old read_new : File → ℕ) : Type 0 where
  pub same : IsTrue g.tells → g.files new ≡ g.files old
  pub images : IsTrue g.tells → (t : ℕ) (image : Files) → g.left_since new t image → g.left_since old t image
  pub kept : IsTrue g.tells → (t : ℕ) (image : Files) → g.left_since old t image → g.left_since new t image
  pub moment_same : g.moment new ≡ g.moment old
  pub reads : (f : File) → g.bytes_read new f + read_old f ≤ g.bytes_read old f + read_new f
  pub below : g.follows old new
  pub later : g.faults old ≤ g.faults new

module _ {D : Type 0} (g : disk.Ghosts D) where
  pub keeps_refl : (disk : D) (read : File → ℕ) → g.follows disk disk → KeepsBelow g disk disk read read
  keeps_refl disk read below = record {
    same = λ told. refl;
    images = λ told t image left. left;
    kept = λ told t image left. left;
    moment_same = refl;
    reads = λ f. omega arith;
    below = below;
    later = omega arith;
  }

  pub keeps_trans : ((a b c : D) → g.follows a b → g.follows b c → g.follows a c) → (a b c : D) (ra rb rc : File → ℕ)
      → KeepsBelow g a b ra rb
      → KeepsBelow g b c rb rc
      → KeepsBelow g a c ra rc
  keeps_trans trans a b c ra rb rc first second = record {
    same = λ told. second.same told ∙ first.same told;
    images = λ told t image left. first.images told t image (second.images told t image left);
    kept = λ told t image left. second.kept told t image (first.kept told t image left);
    moment_same = second.moment_same ∙ first.moment_same;
    reads = λ f. omega (arith, first.reads f, second.reads f);
    below = trans a b c first.below second.below;
    later = omega (arith, first.later, second.later);
  }
