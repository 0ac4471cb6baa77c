-- Of a part: what it fails for, what is read up to its steps, and a command that was stopped within it.
use Rattle.std.proofs.Common.{◌≡◌, ℕ, zero, suc, ◌+◌, Bool, List, [], ◌∷◌, drop, Result, Err, Some, sym}
use Rattle.std.proofs.Common.{ap, not, ◌∙◌, add-one}
use Rattle.std.specs.Prelude.{slice_get}
use Rattle.rpm_effects.specs.Progress.{Outputs}
use Rattle.rpm_effects.specs.Steps.{Bearer, Course, Step, is_out}
use Rattle.rpm_effects.specs.declared.tally.Halt.{Halt}
use Rattle.rpm_effects.specs.Answers.{PartIs, PartProgress, CommandProgress}
use Rattle.rpm_effects.specs.Endings.{why_of_halt}
use Rattle.rpm_effects.specs.Portions.{Portion}
use Rattle.rpm_effects.specs.declared.tally.Halt.TheVariants as halt
use Rattle.rpm_effects.proofs.laws.Stopping.{reached_reads}

-- whether a step goes to standard error
abbrev pub is_bad : Step → Bool
is_bad s = not (is_out s)

pub part_reads : (part : Portion) (r : Result Bool Halt) (old new : Outputs) (P Q : Bearer → Type 0)
    → ((b : Bearer) → P b → Q b) → PartIs part r old new P
    → PartIs part r old new Q
part_reads part r old new P Q so p =
    record { steps = reached_reads {T = Bool} part.steps r old new P Q so p.steps; fails = p.fails }

-- a command that was stopped
pub went_stop : (T : Type 0) (c : Course) (what : Halt) (old new : Outputs) (reads_to : Bearer → Type 0)
    → PartProgress {T = T} c.steps (Err what) old new reads_to
    → CommandProgress c (why_of_halt what) old new reads_to
went_stop T c halt.DiskFault old new reads_to r = r
went_stop T c others old new reads_to r = r

-- the argument at a place, and those after it
pub drop_get : {X : Type 0} (xs : List X) (i : ℕ) (x : X) → slice_get xs i ≡ Some x → drop i xs ≡ x ∷ drop (i + 1) xs
drop_get [] i x is = absurd cc
drop_get (y ∷ xs) zero x is = (let same : y ≡ x = cc in ap (λ z. z ∷ xs) same)
drop_get (y ∷ xs) (suc i) x is = drop_get xs i x is ∙ ap (λ (k : ℕ). x ∷ drop k xs) (add-one i)
    ∙ ap (λ (k : ℕ). x ∷ drop k (y ∷ xs)) (sym (add-one (suc i)))
