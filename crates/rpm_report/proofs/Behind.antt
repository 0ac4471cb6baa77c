-- One part of a report after another; a report that tells the packages that can't be read, and then what a question found.
use Rattle.std.proofs.Common.{◌≡◌, ℕ, Bool, true, false, ◌||◌, List, [], ◌∷◌, ◌++◌, Result, Ok, Err, refl, sym, ap, ◌∙◌, subst}
use Rattle.std.specs.Prelude.{IsTrue}
use Rattle.rpm_check.specs.Frame.{CheckQuestion}
use Rattle.rpm_outside.specs.declared.disk.Disk as disk
use Rattle.rpm_report.proofs.Vocabulary.{Anywhere, portion_behind, CheckFault, Database, Files, Halt, halt_of_check, HaltsOfSome, outputs, PartIs, Portion}
use Rattle.rpm_report.proofs.Vocabulary.{PartProgress}
use Rattle.rpm_report.proofs.Vocabulary.{Step, Through}
use Rattle.rpm_select.specs.Frame.{HasKeptRows}
use Rattle.std.proofs.lemmas.List.{append-nil}
use Rattle.rpm_report.proofs.laws.Checked.{broken_stops, lawful_stops}
use Rattle.rpm_print.proofs.laws.Reached.{rows_at}
use Rattle.rpm_effects.proofs.laws.Reaching.{through_none, through_more, goes_start, goes_stop}
use Rattle.rpm_effects.proofs.laws.Stopping.{reached_unsunk}

-- what stops the second stops both
both_stop : (ot et : Bool) (p q : List Step) (T T' : Type 0) (what : Halt) (o o' o'' e e' e'' : List ℕ) → Through p (outputs ot o et e) (outputs ot o' et e')
    → PartProgress {T = T} q (Err what) (outputs ot o' et e') (outputs ot o'' et e'') Anywhere
    → PartProgress {T = T'} (p ++ q) (Err what) (outputs ot o et e) (outputs ot o'' et e'') Anywhere
both_stop ot et p q T T' what o o' o'' e e' e'' first second =
    goes_stop ot et (p ++ q) q q [] o o' o'' e e' e'' (sym (append-nil q)) (record { done = p; parts = refl; went = first }) T T' what Anywhere second

-- where the first stops, so do both
pub first_stops : (ot et : Bool) (p q : List Step) (T T' : Type 0) (what : Halt) (o o' e e' : List ℕ)
    → PartProgress {T = T} p (Err what) (outputs ot o et e) (outputs ot o' et e') Anywhere
    → PartProgress {T = T'} (p ++ q) (Err what) (outputs ot o et e) (outputs ot o' et e') Anywhere
first_stops ot et p q T T' what o o' e e' first =
    goes_stop ot et (p ++ q) (p ++ q) p q o o o' e e e' refl (goes_start ot et (p ++ q) (p ++ q) o e refl) T T' what Anywhere first

-- after a step that was gone through
pub head_reached : (ot et : Bool) (s : Step) (rest : List Step) (r : Result (Unit {0}) Halt) (o o' o'' e e' e'' : List ℕ)
    → Through (s ∷ []) (outputs ot o et e) (outputs ot o' et e') → PartProgress rest r (outputs ot o' et e') (outputs ot o'' et e'') Anywhere
    → PartProgress (s ∷ rest) r (outputs ot o et e) (outputs ot o'' et e'') Anywhere
head_reached ot et s rest (Ok done) o o' o'' e e' e'' first second = through_more {ot = ot} {et = et} (s ∷ []) rest o o' o'' e e' e'' first second
head_reached ot et s rest (Err what) o o' o'' e e' e'' first second =
    both_stop ot et (s ∷ []) rest (Unit {0}) (Unit {0}) what o o' o'' e e' e'' first second

or_false : (b : Bool) → (b || false) ≡ b
or_false true = refl
or_false false = refl

module _ {p : Portion} (q : Portion) {ot et : Bool} {o o' e e' : List ℕ} where
  pub behind_first : {what : Halt} → PartIs p (Err what) (outputs ot o et e) (outputs ot o' et e') Anywhere
      → PartIs (portion_behind p q) (Err what) (outputs ot o et e) (outputs ot o' et e') Anywhere
  behind_first {what = what} first = record { steps = first_stops ot et p.steps q.steps Bool Bool what o o' e e' first.steps; fails = tt }

  module _ {fails : Bool} (first : PartIs p (Ok fails) (outputs ot o et e) (outputs ot o' et e') Anywhere) {o'' e'' : List ℕ} where
    pub behind_stop : (T : Type 0) {what : Halt} {steps : List Step} → steps ≡ q.steps
        → PartProgress {T = T} steps (Err what) (outputs ot o' et e') (outputs ot o'' et e'') Anywhere
        → PartIs (portion_behind p q) (Err what) (outputs ot o et e) (outputs ot o'' et e'') Anywhere
    behind_stop T {what = what} is stop = record {
      steps = both_stop ot et p.steps q.steps T Bool what o o' o'' e e' e'' first.steps
          (subst (λ (ss : List Step). PartProgress {T = T} ss (Err what) (outputs ot o' et e') (outputs ot o'' et e'') Anywhere) is stop);
      fails = tt;
    }

    pub behind_told : {any : Bool} → q.fails ≡ any → Through q.steps (outputs ot o' et e') (outputs ot o'' et e'')
        → PartIs (portion_behind p q) (Ok (fails || any)) (outputs ot o et e) (outputs ot o'' et e'') Anywhere
    behind_told any went = record {
      steps = through_more {ot = ot} {et = et} p.steps q.steps o o' o'' e e' e'' first.steps went;
      fails = ap (λ (x : Bool). x || q.fails) first.fails ∙ ap (λ (x : Bool). fails || x) any;
    }

    -- where the second doesn't fail
    pub behind_sound : q.fails ≡ false → Through q.steps (outputs ot o' et e') (outputs ot o'' et e'')
        → PartIs (portion_behind p q) (Ok fails) (outputs ot o et e) (outputs ot o'' et e'') Anywhere
    behind_sound sound went = (let part = behind_told sound went in record { steps = part.steps; fails = part.fails ∙ or_false fails })

-- a question that fails after calls that only read
module _ {D : Type 0} (d : disk.Ghosts D) (db : Database) {old mid new : D} {X : Type 0} {fault : CheckFault} (same : d.files mid ≡ d.files old)
    (asks : CheckQuestion d {X = X} mid new db (Err fault)) (told : IsTrue d.tells) where
  pub question_broken : HaltsOfSome (d.files old).idx (halt_of_check fault)
  question_broken = subst (λ (f : Files). HaltsOfSome f.idx (halt_of_check fault)) same (broken_stops (d.files mid).idx fault (asks.broken told))

  pub question_read : HasKeptRows d old db → (steps : List Step) (ot et : Bool) (o e : List ℕ)
      → PartProgress {T = Bool} steps (Err (halt_of_check fault)) (outputs ot o et e) (outputs ot o et e) Anywhere
  question_read rows steps ot et o e =
      reached_unsunk Bool steps (halt_of_check fault) (outputs ot o et e) (outputs ot o et e) Anywhere
      (lawful_stops fault (asks.lawful told (rows_at db (d.files mid) (d.files old) same rows))) (through_none {ot = ot} {et = et} o e)
