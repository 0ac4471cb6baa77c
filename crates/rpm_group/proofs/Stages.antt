-- One stage of a commit after another.
use Rattle.std.proofs.Common.{◌≡◌, inl, inr, ⊎_elim, ℕ, ◌≤◌, List, refl, ap, subst, ◌∙◌, arith}
use Rattle.rpm_outside.specs.declared.disk.Disk as disk
use Rattle.rpm_group.proofs.Vocabulary.{BeforeOrAfter, blank_closed, IsChangedInRange, Closed, closed_blank, Entry, Files, is_blank_unit, IsTransaction}
use Rattle.rpm_group.proofs.Vocabulary.{KeepsBehind, Layers, leaves_then, leaves_weaker, CrashChanges, CrashLeavesOnly, Log, log_state, needed_units, Open}
use Rattle.rpm_group.proofs.Vocabulary.{reopened_files, reopened_closed, reopened_open, ReopensAs, without_log, WasChanged, WasWithin, with_entries, with_held}
use Rattle.rpm_group.proofs.Closes.{written_leaves, closed_sound}

pub still_closed : (old new : Files) (first end : ℕ) → 1 ≤ first → log_state old.log ≡ Closed → IsChangedInRange Log first end old new
    → log_state new.log ≡ Closed
still_closed old new first end low closed changed =
    blank_closed new.log (ap is_blank_unit (changed.each 0 (inl (omega (arith, low)))) ∙ closed_blank old.log closed)

module _ {D : Type 0} (g : disk.Ghosts D) (before after : Files) where
  -- the entries after the commit record change nothing
  pub logged_leaves : (end : ℕ) (old new : D) (files : Files) → without_log files ≡ before → log_state files.log ≡ Closed
      → ((image : Files) → g.left_since old (g.moment old) image → image ≡ files)
      → CrashChanges g Log 1 end old new → CrashLeavesOnly g old new (BeforeOrAfter before after)
  logged_leaves end old new files is closed durable run =
      leaves_weaker g old new (WasChanged Log 1 end (g.left_since old (g.moment old))) (BeforeOrAfter before after)
      (λ image was.
      let changed : IsChangedInRange Log 1 end files image = subst (λ (f : Files). IsChangedInRange Log 1 end f image) (durable was.0 was.1) was.2 in
      let shut : log_state image.log ≡ Closed = still_closed files image 1 end (omega arith) closed changed in
      inl (record { same = reopened_closed image shut ∙ ap without_log changed.others ∙ is; sound = closed_sound image.log shut }))
      run

  pub opened_leaves : (old new : D) (a b : Files) → a ≡ before → b ≡ after → CrashLeavesOnly g old new (BeforeOrAfter a b)
      → CrashLeavesOnly g old new (BeforeOrAfter before after)
  opened_leaves old new a b is_a is_b run =
      leaves_weaker g old new (BeforeOrAfter a b) (BeforeOrAfter before after)
      (λ image either. ⊎_elim (λ one. inl (record { same = one.same ∙ is_a; sound = one.sound }))
      (λ two. inr (record { same = two.same ∙ is_b; sound = two.sound })) either) run

  pub after_leaves : (old new : D) (files : Files) → files ≡ after → CrashLeavesOnly g old new (ReopensAs files)
      → CrashLeavesOnly g old new (BeforeOrAfter before after)
  after_leaves old new files is run =
      leaves_weaker g old new (ReopensAs files) (BeforeOrAfter before after)
      (λ image one. inr (record { same = one.same ∙ is; sound = one.sound })) run

-- what the files represent in each stage
module _ (held : Layers) (files first : Files) (same : without_log first ≡ without_log files) where
  pub held_same : with_held held (without_log first) ≡ without_log (with_held held files)
  held_same = ap (λ (f : Files). with_held held f) same

  pub entries_same : (entries : List Entry) → IsTransaction entries held → with_entries entries (without_log first) ≡ without_log (with_held held files)
  entries_same entries transaction = transaction.whole (without_log first) ∙ held_same

  pub reopened_same : (entries : List Entry) → IsTransaction entries held → log_state first.log ≡ Open entries
      → reopened_files first ≡ without_log (with_held held files)
  reopened_same entries transaction is = reopened_open first entries is ∙ entries_same entries transaction

-- a file isn't in the transaction's log
pub unlogged_changed : (files new : Files) (first end : ℕ) → IsChangedInRange Log first end files new → without_log new ≡ without_log files
unlogged_changed files new first end changed = ap without_log changed.others

-- what a crash leaves in a stage: of the files, and of the log behind the transaction
abbrev pub StageLeaves : {D : Type 0} → disk.Ghosts D → Layers → D → D → Type 0
StageLeaves g held old new = CrashLeavesOnly g old new (BeforeOrAfter (without_log (g.files old)) (without_log (with_held held (g.files old))))
    × CrashLeavesOnly g old new (λ (image : Files). KeepsBehind (needed_units held) (g.files old).log image.log)

module _ {D : Type 0} (g : disk.Ghosts D) (held : Layers) (files : Files) where
  abbrev BOA : Files → Type 0
  BOA = BeforeOrAfter (without_log files) (without_log (with_held held files))

  pub stage_one : (end : ℕ) (old new : D) → log_state files.log ≡ Closed → ((image : Files) → g.left_since old (g.moment old) image → image ≡ files)
      → CrashChanges g Log 1 end old new → CrashLeavesOnly g old new BOA
  stage_one end old new closed durable run = logged_leaves g (without_log files) (without_log (with_held held files)) end old new files refl closed
      durable run

  pub stage_two : (old mid new : D) (first : Files) (entries : List Entry) → CrashLeavesOnly g old mid BOA
      → without_log first ≡ without_log files → IsTransaction entries held
      → CrashLeavesOnly g mid new (BeforeOrAfter (without_log first) (with_entries entries (without_log first)))
      → CrashLeavesOnly g old new BOA
  stage_two old mid new first entries so_far same transaction run =
      leaves_then g old mid new BOA so_far
      (opened_leaves g (without_log files) (without_log (with_held held files)) mid new (without_log first)
      (with_entries entries (without_log first)) same (entries_same held files first same entries transaction) run)

  pub stage_three : (old mid new : D) (second : Files) (entries : List Entry) → CrashLeavesOnly g old mid BOA
      → without_log second ≡ without_log files → IsTransaction entries held → log_state second.log ≡ Open entries
      → ((image : Files) → g.left_since mid (g.moment mid) image → image ≡ second)
      → CrashLeavesOnly g mid new (WasWithin entries (g.left_since mid (g.moment mid))) → CrashLeavesOnly g old new BOA
  stage_three old mid new second entries so_far same transaction is durable run =
      leaves_then g old mid new BOA so_far
      (after_leaves g (without_log files) (without_log (with_held held files)) mid new (reopened_files second)
      (reopened_same held files second same entries transaction is) (written_leaves g mid new second entries is durable run))

  pub stage_four : (old mid new : D) (second third : Files) → CrashLeavesOnly g old mid BOA → without_log second ≡ without_log files
      → third ≡ with_held held second → CrashLeavesOnly g mid new (ReopensAs (without_log third)) → CrashLeavesOnly g old new BOA
  stage_four old mid new second third so_far same written run =
      leaves_then g old mid new BOA so_far
      (after_leaves g (without_log files) (without_log (with_held held files)) mid new (without_log third) (ap without_log written
      ∙ held_same held files second same) run)
