-- What holds after calls that wrote nothing, and what crashes leave of them.
use Rattle.std.proofs.Common.{◌≡◌, ◌⊎◌, inl, inr, ℕ, refl, sym, ap, ◌∙◌, subst}
use Rattle.std.specs.Prelude.{IsTrue}
use Rattle.rpm_db.proofs.Vocabulary.{AreLawful, ImageFrom, Files, Idx, images, IsBetween, IsChangedStill, IsLawful, IsQuiet, IsDurable, leaves_then}
use Rattle.rpm_db.proofs.Vocabulary.{leaves_weaker, CrashLeaves, OnlyReads, Pkg, Runs, runs_looks, runs_then, runs_weaker, SameFiles, SameLog, Says, RepresentsStore, Store}
use Rattle.rpm_db.specs.State.{State}
use Rattle.rpm_outside.specs.declared.disk.Disk as disk

module _ (before after : State) where
  -- images of the start
  pub same_still : (images : Files → Type 0) → AreLawful images → (image : Files) → ImageFrom SameFiles images image → IsChangedStill before after images image
  same_still images lawful image c = record {
    from = c.from;
    was = c.was;
    log = ap (λ (f : Files). f.log) c.came;
    lawful = subst (λ (f : Files). IsLawful f.pkg f.idx) (sym c.came) (lawful c.from c.was);
    says = inl (ap (λ (f : Files). f.pkg) c.came);
  }

  -- and of what came of them, while nothing was written
  still_from : (first second : Files → Type 0) → ((i : Files) → second i → ImageFrom SameFiles first i) → (image : Files)
      → IsChangedStill before after second image → IsChangedStill before after first image
  still_from first second same image s =
      let c = same s.from s.was in
      record {
        from = c.from;
        was = c.was;
        log = s.log ∙ ap (λ (f : Files). f.log) c.came;
        lawful = s.lawful;
        says = either c.from c.came s.says;
      }
    where
      either : (from : Files) → SameFiles from s.from → (image.pkg ≡ s.from.pkg) ⊎ Says (IsBetween before after) image.pkg
          → (image.pkg ≡ from.pkg) ⊎ Says (IsBetween before after) image.pkg
      either from came (inl same_pkg) = inl (same_pkg ∙ ap (λ (f : Files). f.pkg) came)
      either from came (inr says) = inr says

  module _ {D : Type 0} (d : disk.Ghosts D) where
    pub crashes_refused : (a b : D) → IsTrue d.tells → AreLawful (images d a) → Runs d SameFiles a b
        → CrashLeaves d a b (IsChangedStill before after (images d a))
    crashes_refused a b told lawful run =
        leaves_weaker d a b (ImageFrom SameFiles (images d a)) (IsChangedStill before after (images d a)) (same_still (images d a) lawful)
        (run.any_moment told)

    pub crashes_written : (a b c : D) → IsTrue d.tells → AreLawful (images d a) → Runs d SameFiles a b
        → CrashLeaves d b c (IsChangedStill before after (images d b))
        → CrashLeaves d a c (IsChangedStill before after (images d a))
    crashes_written a b c told lawful run next =
        leaves_then d a b c (IsChangedStill before after (images d a)) (crashes_refused a b told lawful run)
        (leaves_weaker d b c (IsChangedStill before after (images d b)) (IsChangedStill before after (images d a))
        (still_from (images d a) (images d b) (run.now told)) next)

-- while nothing is written
module _ {D : Type 0} (d : disk.Ghosts D) where
  -- the store stays quiet
  pub quiet_same : (a b : D) → IsTrue d.tells → Runs d SameFiles a b → (value : Store)
      → IsQuiet value (d.files a) (images d a) → IsQuiet value (d.files b) (images d b)
  quiet_same a b told run value quiet image here =
      let c = run.now told image here in
      subst (λ (f : Files). RepresentsStore value f.pkg image.pkg) (sym (run.reads_as told))
      (subst (λ (f : Files). RepresentsStore value (d.files a).pkg f.pkg) (sym c.came) (quiet c.from c.was))

  -- the index stays durable too
  pub durable_same : (a b : D) → IsTrue d.tells → Runs d SameFiles a b → IsDurable Idx (d.files a) (images d a)
      → IsDurable Idx (d.files b) (images d b)
  durable_same a b told run durable image here =
      let c = run.now told image here in
      ap (λ (f : Files). f.idx) c.came ∙ durable c.from c.was ∙ ap (λ (f : Files). f.idx) (sym (run.reads_as told))

  -- the log too
  pub log_same : (a b : D) → Runs d SameFiles a b
      → Runs d SameLog a b
  log_same a b = runs_weaker d SameFiles SameLog a b (λ x y same. ap (λ (f : Files). f.log) same)

  -- where the index was read, and the packages before
  pub looked_at : (n : ℕ) (a b : D) → OnlyReads d Idx n a b → Runs d SameFiles a b
  looked_at n a b = runs_looks d SameFiles (λ f. refl) Idx n a b refl

  -- or the packages alone
  pub looked_store : (n : ℕ) (a b : D) → OnlyReads d Pkg n a b → Runs d SameFiles a b
  looked_store n a b = runs_looks d SameFiles (λ f. refl) Pkg n a b refl

  pub looked_both : ((a b c : D) → d.follows a b → d.follows b c → d.follows a c) → (m n : ℕ) (a b c : D) → OnlyReads d Pkg m a b → OnlyReads d Idx n b c
      → Runs d SameFiles a c
  looked_both trans m n a b c first second =
      runs_then d trans SameFiles SameFiles SameFiles a b c (λ x y same. same) (λ x y z p q. q ∙ p)
      (runs_looks d SameFiles (λ f. refl) Pkg m a b refl first) (looked_at n b c second)

  -- then the files are written, and the log stays
  pub log_then : ((a b c : D) → d.follows a b → d.follows b c → d.follows a c) → (a b c : D)
      → Runs d SameFiles a b → Runs d SameLog b c
      → Runs d SameLog a c
  log_then trans a b c first second =
      runs_then d trans SameFiles SameLog SameLog a b c (λ x y same. ap (λ (f : Files). f.log) same)
      (λ x y z p q. q ∙ ap (λ (f : Files). f.log) p) first second

-- the same, of states that are told otherwise
pub crashes_told : {D : Type 0} (d : disk.Ghosts D) (b c : D) (images : Files → Type 0) (s t u v : State) → s ≡ t → u ≡ v
    → CrashLeaves d b c (IsChangedStill s u images) → CrashLeaves d b c (IsChangedStill t v images)
crashes_told d b c images s t u v before after run =
    subst (λ (x : State). CrashLeaves d b c (IsChangedStill t x images)) after
    (subst (λ (x : State). CrashLeaves d b c (IsChangedStill x u images)) before run)
