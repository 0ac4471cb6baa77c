-- Laws of files of which one range was written.
use Rattle.std.specs.Prelude.{◌≡◌, ℕ, ◌+◌, ◌≤◌, length}
use Rattle.rpm_outside.specs.declared.disk.Disk as disk
use Rattle.std.proofs.Common.{inl, inr, ⊎_elim, refl, ap, ◌∙◌, arith}
use Rattle.rpm_outside.specs.declared.disk.File.{File}
use Rattle.rpm_outside.specs.Files.{Units, Files, file_of, with_file}
use Rattle.rpm_outside.specs.Crash.{TornFile, Elapses, OnlyAfter}
use Rattle.rpm_outside.specs.laws.Puts.{length-put, put_before, put_after}
use Rattle.rpm_outside.proofs.laws.Moments.{leaves_then, leaves_weaker, one_more, started}
use Rattle.rpm_outside.specs.laws.FileLaws.{with_itself, with_file-with_file}
use Rattle.rpm_outside.specs.Changed.{IsChangedInRange, WasChanged, CrashChanges}

pub changed_none : (file : File) (first end : ℕ) (files : Files) → IsChangedInRange file first end files files
changed_none file first end files =
    record { others = with_itself file files; each = λ i out. refl; no_shorter = omega arith; no_longer = omega arith }

pub changed_then : (file : File) (first end : ℕ) (a b c : Files) → IsChangedInRange file first end a b
    → IsChangedInRange file first end b c → IsChangedInRange file first end a c
changed_then file first end a b c one two = record {
  others = two.others ∙ ap (λ (f : Files). with_file file (file_of file c) f) one.others
      ∙ with_file-with_file file (file_of file c) (file_of file b) a;
  each = λ i out. two.each i out ∙ one.each i out;
  no_shorter = omega (arith, one.no_shorter, two.no_shorter);
  no_longer = omega (arith, one.no_longer, two.no_longer);
}

pub changed_more : (file : File) (first end low high : ℕ) (a b : Files) → low ≤ first → end ≤ high
    → IsChangedInRange file first end a b → IsChangedInRange file low high a b
changed_more file first end low high a b below above one = record {
  others = one.others;
  each = λ i out. one.each i (⊎_elim (λ h. inl (omega (arith, h, below))) (λ h. inr (omega (arith, h, above))) out);
  no_shorter = one.no_shorter;
  no_longer = omega (arith, one.no_longer);
}

-- a write that was cut short changes its range
pub torn_changed : (file : File) (at : ℕ) (units : Units) (end : ℕ) (a b : Files) → at + length units ≡ end
    → TornFile file at units a b
    → IsChangedInRange file at end a b
torn_changed file at units end a b is torn = record {
  others = torn.others;
  each = λ i out. ⊎_elim
      (λ same. same)
      (λ new. new ∙ ⊎_elim (λ below. put_before at units (file_of file a) i below)
      (λ past. put_after at units (file_of file a) i
      (omega (arith, is, past))) out)
      (torn.torn.each i);
  no_shorter = torn.torn.no_shorter;
  no_longer = omega (arith, torn.torn.no_longer, length-put at units (file_of file a));
}

module _ {D : Type 0} (g : disk.Ghosts D) where
  pub leaves_none : (file : File) (first end : ℕ) (d : D) → CrashChanges g file first end d d
  leaves_none file first end d = started g d (WasChanged file first end (g.left_since d (g.moment d)))
      (λ image left. (image, left, changed_none file first end image))

  -- two runs of writes to one range
  pub changed_leaves_then : (file : File) (first end : ℕ) (old mid new : D)
      → ((image : Files) → g.left_since mid (g.moment mid) image → g.left_since mid
      (g.moment old) image)
      → CrashChanges g file first end old mid → CrashChanges g file first end mid new
      → CrashChanges g file first end old new
  changed_leaves_then file first end old mid new earlier one two =
      leaves_then g old mid new (WasChanged file first end (g.left_since old (g.moment old))) one
      (leaves_weaker g mid new (WasChanged file first end (g.left_since mid (g.moment mid)))
      (WasChanged file first end (g.left_since old (g.moment old)))
      (λ image was.
      let so_far = one.each was.0 (earlier was.0 was.1) in
      (so_far.0, so_far.1, changed_then file first end so_far.0 was.0 image so_far.2 was.2))
      two)

  -- a wider range
  pub changed_leaves_more : (file : File) (first end low high : ℕ) (old new : D) → low ≤ first → end ≤ high
      → CrashChanges g file first end old new → CrashChanges g file low high old new
  changed_leaves_more file first end low high old new below above one =
      leaves_weaker g old new (WasChanged file first end (g.left_since old (g.moment old)))
      (WasChanged file low high (g.left_since old (g.moment old)))
      (λ image was. (was.0, was.1, changed_more file first end low high was.0 image below above was.2)) one

  -- one write
  pub write_leaves : (file : File) (at : ℕ) (units : Units) (end : ℕ) (old new : D) → at + length units ≡ end
      → OnlyAfter (TornFile file at units) (g.left_since old (g.moment old)) (g.left_since new (g.moment new))
      → Elapses (g.moment old) (g.moment new)
      (g.left_since old) (g.left_since new)
      → CrashChanges g file at end old new
  write_leaves file at units end old new is images time =
      one_more g old old new (WasChanged file at end (g.left_since old (g.moment old)))
      (leaves_none file at end old) time
      (λ image left.
      let was = images image left in
      (was.0, was.1, torn_changed file at units end was.0 image is was.2))
