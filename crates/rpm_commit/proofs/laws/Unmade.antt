-- A command that changed nothing: each that was stopped, and one that didn't begin, or whose database wasn't recovered,
-- or wasn't loaded.
use Rattle.std.proofs.Common.{◌≡◌, ℕ, List, true, [], Result, Ok, Err, refl, sym, ap, ◌∙◌, subst, inl, append-nil}
use Rattle.rpm_outside.specs.declared.disk.Disk as disk
use Rattle.rpm_effects.specs.Steps.{Course}
use Rattle.rpm_outside.specs.Files.{Files}
use Rattle.rpm_outside.specs.Frame.{images, CrashLeaves}
use Rattle.rpm_outside.specs.Logs.{Closed, log_state, LogState, Malformed, reopened_files}
use Rattle.rpm_pkgdb.specs.declared.slot.Damage.{Damage}
use Rattle.rpm_commit.specs.Changing.{after, BadBy, ChangeProgress, HasChanges}
use Rattle.rpm_commit.specs.laws.Words.{ChangeProgressOnLog, ChangeProgressOn}
use Rattle.rpm_commit.specs.laws.Words.{IsAllOrNone}
use Rattle.rpm_effects.specs.Classes.{is_done, is_of_lawful}
use Rattle.rpm_command.specs.Tasks.{TaskParts}
use Rattle.rpm_commit.specs.Tasks.{changes_index, is_anew}
use Rattle.rpm_group.specs.Loads.{IsSound, LoadSays}
use Rattle.rpm_group.specs.declared.load.LoadFault.{LoadFault}
use Rattle.rpm_commit.specs.Lawful.{IsLawfulDatabase}
use Rattle.rpm_commit.specs.Answers.{AnswersChange}
use Rattle.rpm_commit.specs.Limits.{LimitsBy, LogBy}
use Rattle.rpm_commit.specs.Run.{ran}
use Rattle.rpm_effects.specs.Progress.{Outputs, Through}
use Rattle.rpm_effects.proofs.laws.Courses.{none_gone}
use Rattle.rpm_db.specs.State.{State, state}
use Rattle.rpm_group.specs.Crashes.{KeepsLog, RecoverSays, ReopensAsOneOf}
use Rattle.rpm_group.specs.declared.recovery.RecoverFault.{RecoverFault}
use Rattle.rpm_outside.proofs.laws.Moments.{leaves_weaker, started}
use Rattle.rpm_effects.specs.Answers.{Misread, RefusalIs}
use Rattle.rpm_pkgdb.specs.Store.{Store, store}
use Rattle.rpm_effects.specs.Endings.{why_of_load, why_of_recover}
use Rattle.rpm_effects.specs.declared.answer.Why.{Why}
use Rattle.rpm_group.specs.declared.load.LoadFault.TheVariants as load
use Rattle.rpm_group.specs.declared.recovery.RecoverFault.TheVariants as recover
use Rattle.rpm_group.proofs.laws.KeptLogs.{same_kept}
use Rattle.rpm_effects.specs.declared.answer.Why.TheVariants as why
use Rattle.rpm_change.specs.inner.IndexLaws.{by_index}
use Rattle.rpm_commit.proofs.laws.Outcomes.{leaves_start}
use Rattle.rpm_commit.proofs.laws.Recovered.{recovering, recovering_fits, recovering_still}
use Rattle.rpm_commit.proofs.laws.Standing.{if_ok}

-- nothing was written
pub through_none : (x : Outputs) → Through [] x x
through_none x = record { out = λ told. sym (append-nil x.out); err = λ told. sym (append-nil x.err) }

-- ---- the endings

-- the log is malformed, or the disk failed, or memory was wanting
abbrev pub IsEarly : LogState → Why → Type 0
IsEarly log (why.BadLog unit) = log ≡ Malformed unit
IsEarly log why.DiskFault = Unit {0}
IsEarly log why.NoMemory = Unit {0}
IsEarly log others = ⊥

pub early_recover : (log : LogState) (fault : RecoverFault) → RecoverSays log (Err fault)
    → IsEarly log (why_of_recover fault)
early_recover log (recover.BadLog unit) says = says
early_recover log recover.DiskFault says = says

-- a log that was closed isn't malformed
pub early_load : (log shut : LogState) → shut ≡ Closed → (fault : LoadFault) → LoadSays shut (Err fault)
    → IsEarly log (why_of_load fault)
early_load log shut closed (load.BadLog unit) says =
    absurd (let wrong : Closed ≡ Malformed unit = sym closed ∙ says in cc)
early_load log shut closed others says = tt

module _ (course : Store → Course) (x : Outputs) where
  early_any : (w : Why) → ((c : Course) → ChangeProgress c w x x) → ((e : Damage) → RefusalIs e w)
      → ((unit : ℕ) → Misread unit w) → (l : LogState)
      (sr : Result Store Damage) → ChangeProgressOnLog course sr l w x x
  early_any w did refused misread (Malformed unit) sr = (misread unit, through_none x)
  early_any w did refused misread others (Ok s) = did (course s)
  early_any w did refused misread others (Err e) = (refused e, through_none x)

-- ---- what is left, and what is said

module _ {D : Type 0} (d : disk.Ghosts D) (words : List (List ℕ)) (task : TaskParts) (course : State → Course)
    (old new : D)
    (stands : reopened_files (d.files new) ≡ reopened_files (d.files old)) (kept : KeepsLog (d.files old) (d.files new))
    (run : CrashLeaves d old new (ReopensAsOneOf (images d old))) where
  abbrev r : Files
  r = reopened_files (d.files old)

  abbrev Lawful : Type 0
  Lawful = IsLawfulDatabase (d.files old)

  unmade_images : (w : Why) → CrashLeaves d old new
      (IsAllOrNone (images d old) w (HasChanges (is_anew task) Lawful course r))
  unmade_images w = leaves_weaker d old new (ReopensAsOneOf (images d old))
      (IsAllOrNone (images d old) w (HasChanges (is_anew task) Lawful course r))
      (λ image stood. inl stood) run

  pub still_one : (w : Why) (before now : Outputs) → (is_done w ≡ true → ⊥)
      → ChangeProgressOn course (d.files old) w before now
      → BadBy (changes_index task) r.pkg r.idx w → (Lawful → is_of_lawful w ≡ true)
      → LimitsBy (is_anew task) Lawful course r w
      → LogBy (is_anew task) Lawful course r w → AnswersChange (ran d words w 0 (old, new) (before, now)) task course
  still_one w before now undone did bad complete limits log = record {
    did = did;
    changed = record {
      counted = λ no. refl;
      state_is = if_ok (store r.pkg) (λ s is. leaves_start course (state r.pkg s) w (d.files new) undone
          (record {
            value = s;
            undamaged = ap (λ (f : Files). store f.pkg) stands
                ∙ is;
            is = ap (λ (f : Files). state f.pkg s) stands;
          }));
      refused = λ no. stands;
      made = λ done. absurd (undone done);
      index = λ may done. absurd (undone done);
      durable = λ done. absurd (undone done);
      lawful = λ may done. absurd (undone done);
      bad = bad;
      complete = complete;
      crashes = λ lawful. if_ok (store r.pkg) (λ s is. recovering d old new run lawful (after course (state r.pkg s)));
      unmade = λ no lawful. recovering_still d old new run lawful;
      fits = λ lawful fit. recovering_fits d old new run fit;
      held = λ done. absurd (undone done);
      kept = kept;
      next = λ done. absurd (undone done);
      images = unmade_images w;
    };
    limits = limits;
    fault = λ faulted. inl (stands, recovering_still d old new run, run);
    log = log;
  }

  pub unmade_one : (x : Outputs) (w : Why) → IsEarly (log_state (d.files old).log) w
      → AnswersChange (ran d words w 0 (old, new) (x, x)) task course
  unmade_one x (why.BadLog unit) is = still_one (why.BadLog unit) x x (λ done. cc)
      (subst (λ (l : LogState). ChangeProgressOnLog (λ s. course (state r.pkg s)) (store r.pkg) l (why.BadLog unit) x x)
      (sym is) (refl, through_none x))
      (λ u bad. absurd cc) (λ lawful. absurd (subst IsSound is lawful.sound))
      (by_index (λ indexed may. if_ok (store r.pkg) (λ s stored. tt))) (by_index (λ indexed may. tt))
  unmade_one x why.DiskFault is = still_one why.DiskFault x x (λ done. cc)
      (early_any (λ s. course (state r.pkg s)) x why.DiskFault (λ c. none_gone c x x (through_none x)) (λ e. tt)
      (λ unit. tt)
      (log_state (d.files old).log) (store r.pkg))
      (λ u bad. absurd cc) (λ lawful. refl) (by_index (λ indexed may. if_ok (store r.pkg) (λ s stored. tt)))
      (by_index (λ indexed may. tt))
  unmade_one x why.NoMemory is = still_one why.NoMemory x x (λ done. cc)
      (early_any (λ s. course (state r.pkg s)) x why.NoMemory (λ c. none_gone c x x (through_none x)) (λ e. tt)
      (λ unit. tt)
      (log_state (d.files old).log) (store r.pkg))
      (λ u bad. absurd cc) (λ lawful. refl) (by_index (λ indexed may. if_ok (store r.pkg) (λ s stored. tt)))
      (by_index (λ indexed may. tt))
  unmade_one x others is = absurd is

-- no call at all
pub idle_run : {D : Type 0} (d : disk.Ghosts D) (it : D) → CrashLeaves d it it (ReopensAsOneOf (images d it))
idle_run d it = started d it (ReopensAsOneOf (images d it))
    (λ image left. (image, left, record { same = refl; log = same_kept image }))
