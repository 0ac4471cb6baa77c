-- Runs of calls that only read, before and after one that writes.
use Rattle.std.specs.Prelude.{◌≡◌, ℕ}
use Rattle.rpm_outside.specs.declared.disk.Disk as disk
use Rattle.std.proofs.Common.{inl, inr, ⊎_elim, sym, subst, arith}
use Rattle.rpm_outside.specs.declared.disk.File.{File}
use Rattle.rpm_outside.specs.Files.{Files}
use Rattle.rpm_outside.specs.Crash.{IsUntouched, Elapses}
use Rattle.rpm_outside.specs.Leaves.{CrashLeavesOnly}
use Rattle.rpm_outside.proofs.laws.Moments.{leaves_then, leaves_weaker, one_more}
use Rattle.rpm_outside.specs.Changed.{WasChanged, CrashChanges}

module _ {D : Type 0} (g : disk.Ghosts D) where
  pub look_then : (old mid new : D) (P : Files → Type 0) (a b : Files)
      → IsUntouched a b (g.left_since old) (g.left_since mid) → g.moment mid ≡ g.moment old
      → CrashLeavesOnly g mid new P → CrashLeavesOnly g old new P
  look_then old mid new P a b untouched same run = record {
    later = omega (arith, run.later, same);
    each = λ image left. run.each image (subst (λ (m : ℕ). g.left_since new m image) (sym same) left);
    before = λ t image le left. ⊎_elim (λ past. inl (untouched.images t image past)) (λ here. inr here)
        (run.before t image (omega (arith, le, same)) left);
  }

  pub then_look : (old mid new : D) (P : Files → Type 0) (a b : Files) → CrashLeavesOnly g old mid P
      → IsUntouched a b (g.left_since mid)
      (g.left_since new) → g.moment new ≡ g.moment mid → CrashLeavesOnly g old new P
  then_look old mid new P a b run untouched same = record {
    later = omega (arith, run.later, same);
    each = λ image left. run.each image (untouched.images (g.moment old) image left);
    before = λ t image le left. run.before t image le (untouched.images t image left);
  }

  -- the images of now are those of before where only reads came between
  pub images_back : (old mid : D) (a b : Files) → IsUntouched a b (g.left_since old) (g.left_since mid)
      → g.moment mid ≡ g.moment old → (image : Files)
      → g.left_since mid (g.moment mid) image → g.left_since old (g.moment old) image
  images_back old mid a b untouched same image left =
      subst (λ (m : ℕ). g.left_since old m image) same (untouched.images (g.moment mid) image left)

  pub changed_after_look : (file : File) (first end : ℕ) (old mid new : D) (a b : Files)
      → IsUntouched a b (g.left_since old) (g.left_since mid)
      → g.moment mid ≡ g.moment old
      → CrashChanges g file first end mid new → CrashChanges g file first end old new
  changed_after_look file first end old mid new a b untouched same run =
      look_then old mid new (WasChanged file first end (g.left_since old (g.moment old))) a b untouched same
      (leaves_weaker g mid new (WasChanged file first end (g.left_since mid (g.moment mid)))
      (WasChanged file first end (g.left_since old (g.moment old)))
      (λ image was. (was.0, images_back old mid a b untouched same was.0 was.1, was.2)) run)

  -- a call that leaves what was left before it
  pub sync_leaves : (old mid new : D) (P : Files → Type 0) → CrashLeavesOnly g old mid P
      → Elapses (g.moment mid) (g.moment new)
      (g.left_since mid) (g.left_since new)
      → ((image : Files) → g.left_since new (g.moment new) image → g.left_since mid (g.moment mid) image)
      → ((image : Files) → g.left_since mid (g.moment mid) image → g.left_since mid (g.moment old) image)
      → CrashLeavesOnly g old new P
  sync_leaves old mid new P run time images earlier = one_more g old mid new P run time
      (λ image left. run.each image (earlier image (images image left)))

  -- calls that leave what was left before them
  pub then_back : (old mid new : D) (P : Files → Type 0)
      → ((image : Files) → g.left_since mid (g.moment mid) image → g.left_since mid (g.moment old) image)
      → CrashLeavesOnly g old mid P → CrashLeavesOnly g mid new (g.left_since mid (g.moment mid))
      → CrashLeavesOnly g old new P
  then_back old mid new P earlier one two =
      leaves_then g old mid new P one (leaves_weaker g mid new (g.left_since mid (g.moment mid)) P
      (λ image left. one.each image (earlier image left)) two)
