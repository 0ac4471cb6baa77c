-- The endings of a command that changes packages, one by one.
use Rattle.std.proofs.Common.{◌≡◌, ℕ, ◌<◌, Bool, true, ◌==◌, if◌then◌else◌, refl, sym, ◌∙◌, subst, inl, inr, arith}
use Rattle.std.proofs.Common.{Option, length}
use Rattle.std.proofs.lemmas.Bool.{cases_Bool, eqb-true}
use Rattle.std.proofs.lemmas.Bool.Decides.{nat_tests}
use Rattle.rpm_effects.specs.Steps.{Course}
use Rattle.rpm_effects.specs.declared.tally.Halt.{Halt}
use Rattle.rpm_outside.specs.Files.{Files}
use Rattle.rpm_commit.specs.Changing.{after, ChangeProgress, HasState, LeavesState}
use Rattle.rpm_effects.specs.Classes.{is_done, is_done_or_fault, is_of_lawful}
use Rattle.rpm_commit.specs.Limits.{MeetsFirst}
use Rattle.rpm_commit.specs.Working.{done_why, UncommittedProgress}
use Rattle.rpm_effects.specs.Progress.{Outputs, Through}
use Rattle.rpm_db.specs.State.{State}
use Rattle.rpm_effects.specs.declared.answer.Why.{Why}
use Rattle.rpm_effects.specs.declared.answer.Why.TheVariants as why

-- ---- one ending

pub stopped_did : (c : Course) (w : Why) (old new : Outputs) → UncommittedProgress c w old new
    → ChangeProgress c w old new
stopped_did c why.Done old new s = absurd s
stopped_did c (why.Failed n) old new s = absurd s
stopped_did c (why.LogFull u) old new s = absurd s
stopped_did c others old new s = s

-- done, with or without arguments that failed
pub by_done_why : (P : Why → Type 0) (n : ℕ) → (n ≡ 0 → P why.Done) → (0 < n → P (why.Failed n)) → P (done_why n)
by_done_why P n none some = elim (cases_Bool (n == 0)) [
  | inl zero ↦ subst (λ (b : Bool). P (if b then why.Done else why.Failed n)) (sym zero) (none (eqb-true n 0 zero))
  | inr more ↦ subst (λ (b : Bool). P (if b then why.Done else why.Failed n)) (sym more)
      (some (grind (arith, nat_tests)))
]

pub done_did : (c : Course) (n : ℕ) (old new : Outputs) → Through c.steps old new → c.failed ≡ n
    → ChangeProgress c (done_why n) old new
done_did c n old new through is = by_done_why (λ (w : Why). ChangeProgress c w old new) n (λ none. (through, is ∙ none))
    (λ some. (through, is, some))

pub is_done_why : (n : ℕ) → is_done (done_why n) ≡ true
is_done_why n = by_done_why (λ (w : Why). is_done w ≡ true) n (λ none. refl) (λ some. refl)

pub fault_done_why : (n : ℕ) → is_done_or_fault (done_why n) ≡ true
fault_done_why n = by_done_why (λ (w : Why). is_done_or_fault w ≡ true) n (λ none. refl) (λ some. refl)

-- nothing changed
pub leaves_start : (course : State → Course) (s : State) (w : Why) (files : Files) → (is_done w ≡ true → ⊥)
    → HasState s files
    → LeavesState course s w 0 files
leaves_start course s why.Done files undone has = absurd (undone refl)
leaves_start course s (why.Failed n) files undone has = absurd (undone refl)
leaves_start course s why.DiskFault files undone has = (refl, inl has)
leaves_start course s others files undone has = (refl, has)

pub leaves_done : (course : State → Course) (s : State) (k n : ℕ) (files : Files) → n ≡ length (course s).changes
    → HasState (after course s) files
    → LeavesState course s (done_why k) n files
leaves_done course s k n files is has =
    by_done_why (λ (w : Why). LeavesState course s w n files) k (λ none. (is, has)) (λ some. (is, has))

pub lawful_ending : (c : Course) (first : Option Halt) (w : Why) (old new : Outputs) → ChangeProgress c w old new
    → MeetsFirst true first w → is_of_lawful w ≡ true
lawful_ending c first (why.Usage f) old new did meets = absurd did
lawful_ending c first (why.BadFormat f) old new did meets = absurd did
lawful_ending c first (why.BadLog u) old new did meets = absurd did
lawful_ending c first (why.Damaged d) old new did meets = absurd did
lawful_ending c first (why.BadIndex u) old new did meets = absurd cc
lawful_ending c first others old new did meets = refl
