-- What is said of a whole argument, and of all of them.
use Rattle.std.proofs.Common.{◌≡◌, ℕ, ◌≢◌, Bool, true, false, List, [], ◌∷◌, map, length, refl, sym}
use Rattle.std.proofs.Common.{Option, is_some, Result, Ok, Err, subst, arith}
use Rattle.std.specs.FinMap.{FinMap}
use Rattle.std.specs.Option.{option_map_or}
use Rattle.std.specs.Ordering.{nat_cmp}
use Rattle.rpm_effects.specs.Progress.{Outputs, outputs}
use Rattle.rpm_effects.specs.Steps.{Bearer, idle, whole_step}
use Rattle.rpm_effects.specs.declared.tally.Halt.{Halt}
use Rattle.rpm_db.specs.State.{Package}
use Rattle.rpm_qfparse.specs.Tree.{Tree}
use Rattle.rpm_select.specs.Reach.{Everything, Reach}
use Rattle.rpm_select.specs.Selections.{picks}
use Rattle.rpm_select.specs.Picks.{is_some_of}
use Rattle.rpm_effects.specs.Answers.{PartIs}
use Rattle.rpm_effects.specs.Classes.{IsOfRead}
use Rattle.rpm_print.specs.Printed.{packages_part, step_of}
use Rattle.rpm_query.specs.Queries.{answered_part, argument_part, lent, missing_part, query_of, question_of}
use Rattle.rpm_query.specs.Reach.{reaches_by}
use Rattle.rpm_effects.specs.Portions.{before_others, parts_in_turn}
use Rattle.rpm_words.specs.declared.switch.Chosen.{Chosen}
use Rattle.rpm_select.specs.declared.selection.Selection.{Selection}
use Rattle.rpm_select.specs.declared.selection.Selection.TheVariants as question
use Rattle.rpm_effects.proofs.laws.Stopping.{reached_empty, reached_later, reached_over, reached_unsunk}
use Rattle.rpm_effects.proofs.laws.Parts.{part_reads}

-- an argument is a question
abbrev pub is_question : Chosen → List ℕ → Bool
is_question chosen text = is_some (question_of chosen (lent text))

-- the packages that a selection picks, none where there is no selection
abbrev pub picked_by : FinMap nat_cmp Package → Option Selection → List (ℕ × Package)
picked_by packages asked = option_map_or (picks packages) asked []

-- an argument by what became of its packages
module _ (tree : Tree) (chosen : Chosen) (after j : ℕ) (text : List ℕ) {P Q : Bearer → Type 0} where
  -- they were not all gone through
  pub answered_stop : (es : List (ℕ × Package)) {what : Halt} {old new : Outputs} → ((b : Bearer) → P b → Q b)
      → PartIs (packages_part (step_of tree j) after es) (Err what) old new P
      → PartIs (answered_part tree chosen after j text es) (Err what) old new Q
  answered_stop [] {what = what} {old = old} {new = new} so p =
      record { steps = reached_empty Bool Bool (missing_part chosen j text).steps what old new P Q p.steps; fails = tt }
  answered_stop (e ∷ es) {what = what} {old = old} {new = new} so p = part_reads
      (packages_part (step_of tree j) after (e ∷ es)) (Err what) old new P Q so p

  -- some were there, and all were gone through
  pub answered_done : (es : List (ℕ × Package)) {fails : Bool} {old new : Outputs} → is_some_of es ≡ true
      → PartIs (packages_part (step_of tree j) after es) (Ok fails) old new P
      → PartIs (answered_part tree chosen after j text es) (Ok fails) old new Q
  answered_done [] some p = absurd cc
  answered_done (e ∷ es) some p = record { steps = p.steps; fails = p.fails }

  -- all were gone through, and then a read was halted
  pub answered_halt : (es : List (ℕ × Package)) {fails : Bool} {what : Halt} {old new : Outputs} → IsOfRead what
      → PartIs (packages_part (step_of tree j) after es) (Ok fails) old new P
      → PartIs (answered_part tree chosen after j text es) (Err what) old new Q
  answered_halt [] {what = what} {old = old} {new = new} is p =
      record { steps = reached_unsunk Bool (missing_part chosen j text).steps what old new Q is p.steps; fails = tt }
  answered_halt (e ∷ es) {what = what} {old = old} {new = new} is p =
      record {
        steps = reached_over Bool (packages_part (step_of tree j) after (e ∷ es)).steps what old new Q is
            p.steps;
        fails = tt;
      }

  -- none was there
  pub answered_missed : (es : List (ℕ × Package)) {fails : Bool} {r : Result Bool Halt} {ot et : Bool}
      {o o' o'' e e' e'' : List ℕ} → is_some_of es ≡ false
      → PartIs (packages_part (step_of tree j) after es) (Ok fails) (outputs ot o et e) (outputs ot o' et e') P
      → Q (whole_step j)
      → PartIs (missing_part chosen j text) r (outputs ot o' et e') (outputs ot o'' et e'') (λ b. b ≡ whole_step j)
      → PartIs (answered_part tree chosen after j text es) r (outputs ot o et e) (outputs ot o'' et e'') Q
  answered_missed [] {r = r} {ot = ot} {et = et} {o = o} {o' = o'} {o'' = o''} {e = e} {e' = e'}
      {e'' = e''} none p reads missed =
      let part = missing_part chosen j text in
      let read = part_reads part r (outputs ot o' et e') (outputs ot o'' et e'') (λ b. b ≡ whole_step j) Q
      (λ b is. subst (λ (w : Bearer). Q w) (sym is) reads) missed in
      record {
        steps = reached_later Bool ot et part.steps r o o' o'' e e' e'' Q p.steps read.steps;
        fails = read.fails;
      }
  answered_missed (x ∷ es) none p reads missed = absurd cc

-- ---- with and without arguments

module _ (tree : Tree) (packages : FinMap nat_cmp Package) (chosen : Chosen) (after : ℕ) (f : ℕ → List ℕ) where
  pub query_none : (args : List ℕ) → length args ≡ 0 → query_of tree packages chosen after (map f args)
      ≡ before_others (packages_part (step_of tree 0) after (picks packages question.All)) idle
  query_none [] none = refl
  query_none (x ∷ xs) none = absurd (omega (arith, none))

  pub query_some : (args : List ℕ) → length args ≢ 0 → query_of tree packages chosen after (map f args)
      ≡ parts_in_turn (argument_part tree packages chosen after) 0 (map f args)
  query_some [] some = absurd (some refl)
  query_some (x ∷ xs) some = refl

module _ (over : List ℕ → Reach) (f : ℕ → List ℕ) where
  pub reaches_none : (args : List ℕ) → length args ≡ 0 → reaches_by over (map f args) ≡ Everything ∷ []
  reaches_none [] none = refl
  reaches_none (x ∷ xs) none = absurd (omega (arith, none))

  pub reaches_some : (args : List ℕ) → length args ≢ 0 → reaches_by over (map f args) ≡ map over (map f args)
  reaches_some [] some = absurd (some refl)
  reaches_some (x ∷ xs) some = refl
