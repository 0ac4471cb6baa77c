-- The parts of all packages, one after the other.
use Rattle.std.specs.Ordering.{nat_cmp}
use Rattle.std.proofs.Common.{◌≡◌, ℕ, ◌+◌, ◌||◌, Bool, true, false, if◌then◌else◌, List, [], ◌∷◌, map, Option, Some}
use Rattle.std.proofs.Common.{None, is_some, Ok, Err, refl}
use Rattle.std.proofs.Common.{sym, ap, ◌∙◌, subst, arith}
use Rattle.std.proofs.lemmas.List.{append-nil}
use Rattle.std.specs.FinMap as finite
use Rattle.rpm_effects.specs.Steps.{Bearer, idle, Step}
use Rattle.rpm_effects.specs.declared.tally.Halt.{Halt}
use Rattle.rpm_db.proofs.laws.Above.{all_above_zero, next_above, none_is, nothing_above}
use Rattle.rpm_db.specs.Database.{Database, IsNext, Keeps}
use Rattle.rpm_db.proofs.laws.PackageLaws.{is_there}
use Rattle.rpm_db.specs.State.{above, Package, packages}
use Rattle.rpm_effects.specs.Portions.{before_others, Portion, together}
use Rattle.rpm_effects.specs.Progress.{outputs, Outputs, Through}
use Rattle.rpm_db.specs.Database.{store_of}
use Rattle.rpm_outside.specs.Files.{Units}
use Rattle.rpm_effects.specs.Answers.{PartIs, PartProgress, CommandProgress}
use Rattle.rpm_db.proofs.laws.FromOne.{from_one as none_zero}
use Rattle.rpm_effects.specs.declared.answer.Why.TheVariants as why
use Rattle.rpm_print.proofs.laws.Printed.{none_more}
use Rattle.rpm_effects.proofs.laws.Reaching.{StepsSoFar, goes_start, goes_more, goes_stop, goes_end}
use Rattle.rpm_effects.proofs.laws.Stopping.{reached_reads}

some_is : (o : Option Package) → is_some o ≡ true → (p : Package) × (o ≡ Some p)
some_is None some = absurd cc
some_is (Some p) some = (p, refl)

-- the next of the packages above a number
pub next_entry : (map : finite.FinMap nat_cmp Package) (n m : ℕ) → IsNext (λ k. is_some (finite.get map k)) n (Some m)
    → (p : Package) × (finite.get map m ≡ Some p)
    × (above n (finite.entries map) ≡ (m, p) ∷ above m (finite.entries map))
next_entry map n m next =
    let p = some_is (finite.get map m) next.1 in
    (p.0, p.1, next_above map n m p.0 next.0 p.1 (λ k a b. none_is (finite.get map k) (next.2 k a b)))

pub no_entry : (map : finite.FinMap nat_cmp Package) (n : ℕ) → IsNext (λ k. is_some (finite.get map k)) n None
    → above n (finite.entries map) ≡ []
no_entry map n none = nothing_above map n (λ k lt. none_is (finite.get map k) (none k lt))

-- none has the number 0
pub from_one : (file : Units) (db : Database) → Keeps file db
    → above 0 (finite.entries (packages file (store_of db))) ≡ finite.entries (packages file (store_of db))
from_one file db keeps =
    all_above_zero (packages file (store_of db)) (none_is (finite.get (packages file (store_of db)) 0)
    (is_there file db 0 ∙ none_zero file db keeps))

-- one more part, for which all of them may fail
pub fails_later : (fails one unsound rest all : Bool) → one ≡ unsound → all ≡ (fails || (one || rest))
    → all ≡ ((fails || unsound) || rest)
fails_later true one unsound rest all same is = is
fails_later false one unsound rest all same is = is ∙ ap (λ (b : Bool). b || rest) same

-- the parts of those above a number
abbrev pub parts_above : (ℕ × Package → Portion) → ℕ → List (ℕ × Package) → Portion
parts_above each n es = together (map each (above n es))

-- a report told the packages up to a number, and whether one of them fails
pub record ReportSoFar (ot et : Bool) (each : ℕ × Package → Portion) (es : List (ℕ × Package)) (n : ℕ) (fails : Bool)
    (o e o' e' : List ℕ) : Type 0 where
  pub goes : StepsSoFar ot et (parts_above each 0 es).steps (parts_above each n es).steps o e o' e'
  pub bad : (parts_above each 0 es).fails ≡ (fails || (parts_above each n es).fails)

pub told_none : {ot et : Bool} {each : ℕ × Package → Portion} {es : List (ℕ × Package)} {o e : List ℕ}
    → ReportSoFar ot et each es 0 false o e o e
told_none {ot = ot} {et = et} {each = each} {es = es} {o = o} {e = e} =
    record { goes = goes_start ot et (parts_above each 0 es).steps (parts_above each 0 es).steps o e refl; bad = refl }

module _ {ot et : Bool} {each : ℕ × Package → Portion} {es : List (ℕ × Package)} {n m : ℕ} {p : Package} {fails : Bool}
    {o o' o'' e e' e'' : List ℕ}
    (is : above n es ≡ (m, p) ∷ above m es) (far : ReportSoFar ot et each es n fails o e o' e') where
  -- one part more
  pub told_more : {unsound : Bool} {P : Bearer → Type 0}
      → PartIs (each (m, p)) (Ok unsound) (outputs ot o' et e') (outputs ot o'' et e'') P
      → ReportSoFar ot et each es m (fails || unsound) o e o'' e''
  told_more {unsound = unsound} part = record {
    goes = goes_more ot et (parts_above each 0 es).steps (parts_above each n es).steps (each (m, p)).steps
        (parts_above each m es).steps o o' o'' e e' e''
        (ap (λ (xs : List (ℕ × Package)). (together (map each xs)).steps) is) far.goes part.steps;
    bad = fails_later fails (each (m, p)).fails unsound (parts_above each m es).fails
        (parts_above each 0 es).fails part.fails
        (far.bad ∙ ap (λ (xs : List (ℕ × Package)). fails || (together (map each xs)).fails) is);
  }

  -- a part that stops
  pub told_stop : {what : Halt} {P : Bearer → Type 0} (Q : Bearer → Type 0) → ((b : Bearer) → P b → Q b)
      → above 0 es ≡ es
      → PartIs (each (m, p)) (Err what) (outputs ot o' et e') (outputs ot o'' et e'') P
      → PartIs (together (map each es)) (Err what) (outputs ot o et e) (outputs ot o'' et e'') Q
  told_stop {what = what} {P = P} Q so first part = record {
    steps =
        subst (λ (xs : List (ℕ × Package)). PartProgress {T = Bool} (together (map each xs)).steps (Err what)
        (outputs ot o et e) (outputs ot o'' et e'') Q)
        first
        (goes_stop ot et (parts_above each 0 es).steps (parts_above each n es).steps (each (m, p)).steps
        (parts_above each m es).steps o o' o'' e e' e''
        (ap (λ (xs : List (ℕ × Package)). (together (map each xs)).steps) is) far.goes Bool Bool what Q
        (reached_reads {T = Bool} (each (m, p)).steps (Err what) (outputs ot o' et e')
        (outputs ot o'' et e'') P Q so part.steps));
    fails = tt;
  }

-- all were told
pub told_end : {ot et : Bool} {each : ℕ × Package → Portion} {es : List (ℕ × Package)} {n : ℕ} {fails : Bool}
    {o o' e e' : List ℕ} (Q : Bearer → Type 0)
    → above n es ≡ [] → above 0 es ≡ es → ReportSoFar ot et each es n fails o e o' e'
    → PartIs (together (map each es)) (Ok fails) (outputs ot o et e) (outputs ot o' et e') Q
told_end {ot = ot} {et = et} {each = each} {es = es} {n = n} {fails = fails} {o = o} {o' = o'} {e = e}
    {e' = e'} Q none first far = record {
      steps =
          subst (λ (xs : List (ℕ × Package)). Through (together (map each xs)).steps (outputs ot o et e)
          (outputs ot o' et e')) first
          (goes_end ot et (parts_above each 0 es).steps (parts_above each n es).steps o o' e e'
          (ap (λ (xs : List (ℕ × Package)). (together (map each xs)).steps) none) far.goes);
      fails = ap (λ (xs : List (ℕ × Package)). (together (map each xs)).fails) (sym first)
          ∙ sym (none_more fails (parts_above each 0 es).fails
          (far.bad ∙ ap (λ (xs : List (ℕ × Package)). fails || (together (map each xs)).fails) none));
    }

-- a command of one part that went through
module _ (p : Portion) (old new : Outputs) (reads_to : Bearer → Type 0) where
  pub went_failing : PartIs p (Ok true) old new reads_to
      → CommandProgress (before_others p idle) (why.Failed 1) old new reads_to
  went_failing part = (
    subst (λ (ss : List Step). Through ss old new) (sym (append-nil p.steps)) part.steps,
    ap (λ (b : Bool). (if b then 1 else 0) + 0) part.fails,
    omega arith,
  )

  pub went_sound : PartIs p (Ok false) old new reads_to
      → CommandProgress (before_others p idle) why.Done old new reads_to
  went_sound part = (
    subst (λ (ss : List Step). Through ss old new) (sym (append-nil p.steps)) part.steps,
    ap (λ (b : Bool). (if b then 1 else 0) + 0) part.fails,
  )
