-- How a transaction ends: it is committed, or let go.
use Rattle.std.proofs.Common.{◌≡◌, ℕ, Bool, true, Err, refl, sym, ap, ◌∙◌, subst}
use Rattle.std.specs.Prelude.{IsTrue}
use Rattle.rpm_outside.specs.declared.disk.Disk as disk
use Rattle.rpm_commit.proofs.Vocabulary.{TransactionEnding, File, Files, images, is_done, is_halt, IsShut, IsSound, KeepsBelow, CrashLeaves, Log, log_state, OnlyReadsFile}
use Rattle.rpm_commit.proofs.Vocabulary.{reopened_files, ReopensAs, started, unless_starved, without_log, Why}
use Rattle.rpm_effects.specs.declared.answer.Why.TheVariants as why
use Rattle.rpm_commit.proofs.laws.ByEnding.{by_starved}
use Rattle.rpm_commit.proofs.laws.Starved.{starved_is}
use Rattle.rpm_commit.proofs.laws.Recovered.{leaves_on}
use Rattle.rpm_commit.proofs.laws.Standing.{shut_stands}

pub halt_undone : (w : Why) → is_halt w ≡ true → is_done w ≡ true → ⊥
halt_undone why.Done halts is = cc
halt_undone others halts is = cc

let_go_undone : (starved : Bool) (w : Why) → is_halt w ≡ true → is_done (unless_starved starved w) ≡ true → ⊥
let_go_undone starved w =
    by_starved (λ (was given : Why). is_halt was ≡ true → is_done given ≡ true → ⊥) halt_undone (λ halts is. cc) starved w

-- ---- endings

module _ {D : Type 0} (d : disk.Ghosts D) (after : Files) (old new : D) (shut : IsShut d old) (same : new ≡ old) where
  abbrev before : Files
  before = without_log (d.files old)

  -- each image at the start is the files before
  as_before : (image : Files) → images d old image → ReopensAs before image
  as_before image is = record {
    same = ap reopened_files (shut.durable image is) ∙ shut_stands (d.files old) shut.closed;
    sound = subst IsSound (sym (ap (λ (f : Files). log_state f.log) (shut.durable image is) ∙ shut.closed)) tt;
  }

  released : CrashLeaves d old new (ReopensAs before)
  released = subst (λ (it : D). CrashLeaves d old it (ReopensAs before)) (sym same) (started d old (ReopensAs before) as_before)

  pub release_ends : (starved : Bool) (was : Why) → is_halt was ≡ true → TransactionEnding d (Err was) (unless_starved starved was) 0 after old new
  release_ends starved was halts = record {
    says = (refl, starved_is starved was);
    done = λ is. absurd (let_go_undone starved was halts is);
    shut = λ is. absurd (let_go_undone starved was halts is);
    leaves = released;
    unmade = λ no. released;
  }

-- ---- the disk below an overlay

module _ {D : Type 0} (d : disk.Ghosts D) (first mid last : D) (ro rn : File → ℕ) (looks : OnlyReadsFile d Log first mid)
    (keeps : KeepsBelow d mid last ro rn) (told : IsTrue d.tells) where
  pub below_same : d.files last ≡ d.files first
  below_same = keeps.same told ∙ (looks.untouched told).same

  -- so whatever a crash leaves is as before
  pub below_run : (old : D) (P : Files → Type 0) → CrashLeaves d old first P → CrashLeaves d old last P
  below_run old P run = leaves_on d old first last P (keeps.moment_same ∙ looks.moment_stays)
      (λ t image left. (looks.untouched told).images t image (keeps.images told t image left)) run
