-- How a run of calls on a disk goes on.
use Rattle.std.proofs.Common.{inl, inr, ⊎_elim, arith}
use Rattle.rpm_outside.specs.declared.disk.Disk as disk
use Rattle.rpm_outside.specs.Files.{Files}
use Rattle.rpm_outside.specs.Crash.{Elapses}
use Rattle.rpm_outside.specs.Leaves.{CrashLeavesOnly}

module _ {D : Type 0} (g : disk.Ghosts D) where
  -- before the first call
  pub started : (old : D) (P : Files → Type 0) → ((image : Files) → g.left_since old (g.moment old) image → P image)
      → CrashLeavesOnly g old old P
  started old P here = record { later = omega arith; each = here; before = λ t image le left. inl left }

  -- one call more, after which a crash leaves what has P
  pub one_more : (old mid new : D) (P : Files → Type 0) → CrashLeavesOnly g old mid P
      → Elapses (g.moment mid) (g.moment new) (g.left_since mid)
      (g.left_since new)
      → ((image : Files) → g.left_since new (g.moment new) image → P image) → CrashLeavesOnly g old new P
  one_more old mid new P so_far time here = record {
    later = omega (arith, so_far.later, time.later);
    each =
        λ image left. ⊎_elim (so_far.each image) (here image)
        (time.nothing_else (g.moment old) image so_far.later left);
    before = λ t image le left. ⊎_elim (so_far.before t image le) (λ now. inr (here image now))
        (time.nothing_else t image (omega (arith, le, so_far.later)) left);
  }

  -- two runs, one after the other
  pub leaves_then : (old mid new : D) (P : Files → Type 0) → CrashLeavesOnly g old mid P → CrashLeavesOnly g mid new P
      → CrashLeavesOnly g old new P
  leaves_then old mid new P first second = record {
    later = omega (arith, first.later, second.later);
    each = λ image left. ⊎_elim (first.each image) (λ here. here) (second.before (g.moment old) image first.later left);
    before = λ t image le left. ⊎_elim (first.before t image le) (λ here. inr here)
        (second.before t image (omega (arith, le, first.later)) left);
  }

  pub leaves_weaker : (old new : D) (P Q : Files → Type 0) → ((image : Files) → P image → Q image)
      → CrashLeavesOnly g old new P
      → CrashLeavesOnly g old new Q
  leaves_weaker old new P Q weaker run = record {
    later = run.later;
    each = λ image left. weaker image (run.each image left);
    before =
        λ t image le left. ⊎_elim (λ past. inl past) (λ here. inr (weaker image here)) (run.before t image le left);
  }
