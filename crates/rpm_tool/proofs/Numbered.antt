-- The numbers that an argument's steps are for, and which steps `--after` leaves out.
use Rattle.std.proofs.Common.{◌≡◌, ℕ, ◌+◌, Bool, true, false, cond, List, [], ◌∷◌, ◌++◌, map, Option, Some, None, refl, sym, ap, ◌∙◌, arith, nat_lt}
use Rattle.std.proofs.lemmas.List.{append-nil}
use Rattle.std.proofs.lemmas.List.Elements.{filter-append}
use Rattle.std.proofs.lemmas.Bool.Decides.{nat_tests}
use Rattle.rpm_tool.proofs.Vocabulary.{above, answered_part, argument_part, Bearer, Chosen, is_picked, lent, missing_part, nat_cmp, Package, picked_packages, picked_by}
use Rattle.rpm_tool.proofs.Vocabulary.{cons_option, picks, query_of, question_of, RisesFrom, Selection, step_of, Tree}
use Rattle.std.specs.FinMap as finite
use Rattle.rpm_words.specs.declared.switch.Chosen.TheVariants as by
use Rattle.rpm_select.specs.declared.selection.Selection.TheVariants as question
use Rattle.rpm_effects.specs.Steps.{Step, bearer_of}
use Rattle.rpm_effects.specs.Portions.{parts_in_turn, numbers_of_steps}
use Rattle.rpm_tool.specs.Requests.{steps_above}
use Rattle.rpm_tool.specs.inner.Words.{is_above}
use Rattle.rpm_print.proofs.laws.Printed.{bearer-step_of}
use Rattle.rpm_query.proofs.laws.Rising.{rises_above}

told_numbers : (tree : Tree) (j : ℕ) (es : List (ℕ × Package)) → numbers_of_steps (map (step_of tree j) es) ≡ map (λ e. e.0) es
told_numbers tree j [] = refl
told_numbers tree j (e ∷ es) =
    ap (λ (b : Bearer). cons_option b.number (numbers_of_steps (map (step_of tree j) es))) (bearer-step_of tree j e)
    ∙ ap (λ (ns : List ℕ). e.0 ∷ ns) (told_numbers tree j es)

missing_numbers : (chosen : Chosen) (j : ℕ) (text : List ℕ) → numbers_of_steps (missing_part chosen j text).steps ≡ []
unfolding missing_part
missing_numbers by.Label j text = refl
missing_numbers others j text = refl

answered_numbers : (tree : Tree) (chosen : Chosen) (after j : ℕ) (text : List ℕ) (es : List (ℕ × Package))
    → numbers_of_steps (answered_part tree chosen after j text es).steps ≡ map (λ e. e.0) (above after es)
answered_numbers tree chosen after j text [] = missing_numbers chosen j text
answered_numbers tree chosen after j text (e ∷ es) = told_numbers tree j (above after (e ∷ es))

-- they are those of the picked packages above `--after`
pub argument_numbers : (tree : Tree) (packages : finite.FinMap nat_cmp Package) (chosen : Chosen) (after j : ℕ) (text : List ℕ)
    → numbers_of_steps (argument_part tree packages chosen after j text).steps ≡ map (λ e. e.0) (above after (picked_packages packages chosen text))
argument_numbers tree packages chosen after j text = answered_numbers tree chosen after j text (picked_packages packages chosen text)

by_rises : (packages : finite.FinMap nat_cmp Package) (question : Option Selection) (after : ℕ)
    → RisesFrom after (map (λ e. e.0) (above after (picked_by packages question)))
unfolding picks
by_rises packages None after = tt
by_rises packages (Some sel) after = rises_above (is_picked sel) after (finite.entries packages) (finite.entries_sorted packages)

-- each once and rising
pub picked_rises : (packages : finite.FinMap nat_cmp Package) (chosen : Chosen) (text : List ℕ) (after : ℕ)
    → RisesFrom after (map (λ e. e.0) (above after (picked_packages packages chosen text)))
unfolding picked_packages
picked_rises packages chosen text after = by_rises packages (question_of chosen (lent text)) after

-- those of a query without arguments
pub whole_numbers : (tree : Tree) (packages : finite.FinMap nat_cmp Package) (chosen : Chosen) (after : ℕ)
    → numbers_of_steps (query_of tree packages chosen after []).steps ≡ map (λ e. e.0) (above after (picks packages question.All))
whole_numbers tree packages chosen after =
    ap numbers_of_steps (append-nil (map (step_of tree 0) (above after (picks packages question.All))))
    ∙ told_numbers tree 0 (above after (picks packages question.All))

pub all_rise : (packages : finite.FinMap nat_cmp Package) (after : ℕ) → RisesFrom after (map (λ e. e.0) (above after (picks packages question.All)))
all_rise packages after = by_rises packages (Some question.All) after

-- ---- with `--after` and without

abbrev is_left : ℕ → Step → Bool
is_left after s = is_above after (bearer_of s).number

module _ (tree : Tree) (after : ℕ) where
  -- one package more, by whether it has a number, and one above
  one_above : (j : ℕ) (e : ℕ × Package) (all over : List (ℕ × Package)) (some higher : Bool) → (higher ≡ true → some ≡ true)
      → is_left after (step_of tree j e) ≡ higher → map (step_of tree j) over ≡ steps_above after (map (step_of tree j) all)
      → map (step_of tree j) (cond higher (e ∷ over) over) ≡ steps_above after (map (step_of tree j) (cond some (e ∷ all) all))
  one_above j e all over true true up is rest = rw is (ap (λ (steps : List Step). step_of tree j e ∷ steps) rest)
  one_above j e all over true false up is rest = rw is rest
  one_above j e all over false true up is rest = absurd (let no = up refl in cc)
  one_above j e all over false false up is rest = rest

  told_above : (j : ℕ) (es : List (ℕ × Package)) → map (step_of tree j) (above after es) ≡ steps_above after (map (step_of tree j) (above 0 es))
  told_above j [] = refl
  told_above j (e ∷ es) = one_above j e (above 0 es) (above after es) (nat_lt 0 e.0) (nat_lt after e.0)
      (λ (over : nat_lt after e.0 ≡ true). grind (arith, nat_tests))
      (ap (λ (b : Bearer). is_above after b.number) (bearer-step_of tree j e))
      (told_above j es)

  missing_above : (chosen : Chosen) (j : ℕ) (text : List ℕ)
      → (missing_part chosen j text).steps ≡ steps_above after (missing_part chosen j text).steps
  unfolding missing_part
  missing_above by.Label j text = refl
  missing_above others j text = refl

  answered_above : (chosen : Chosen) (j : ℕ) (text : List ℕ) (es : List (ℕ × Package))
      → (answered_part tree chosen after j text es).steps ≡ steps_above after (answered_part tree chosen 0 j text es).steps
  answered_above chosen j text [] = missing_above chosen j text
  answered_above chosen j text (e ∷ es) = told_above j (e ∷ es)

  -- a part before others
  steps_then : (a b c d : List Step) → a ≡ steps_above after b → c ≡ steps_above after d → a ++ c ≡ steps_above after (b ++ d)
  steps_then a b c d first second = ap (λ (steps : List Step). steps ++ c) first ∙ ap (λ (steps : List Step). steps_above after b ++ steps) second
      ∙ sym (filter-append (is_left after) b d)

  turn_above : (packages : finite.FinMap nat_cmp Package) (chosen : Chosen) (j : ℕ) (texts : List (List ℕ))
      → (parts_in_turn (argument_part tree packages chosen after) j texts).steps
      ≡ steps_above after (parts_in_turn (argument_part tree packages chosen 0) j texts).steps
  turn_above packages chosen j [] = refl
  turn_above packages chosen j (text ∷ texts) = steps_then
      (argument_part tree packages chosen after j text).steps
      (argument_part tree packages chosen 0 j text).steps
      (parts_in_turn (argument_part tree packages chosen after) (j + 1) texts).steps
      (parts_in_turn (argument_part tree packages chosen 0) (j + 1) texts).steps
      (answered_above chosen j text (picked_packages packages chosen text))
      (turn_above packages chosen (j + 1) texts)

  -- the steps of a query are those without `--after`, less those that bear a number up to it
  pub query_above : (packages : finite.FinMap nat_cmp Package) (chosen : Chosen) (texts : List (List ℕ))
      → (query_of tree packages chosen after texts).steps ≡ steps_above after (query_of tree packages chosen 0 texts).steps
  query_above packages chosen [] = steps_then
      (map (step_of tree 0) (above after (picks packages question.All)))
      (map (step_of tree 0) (above 0 (picks packages question.All)))
      [] [] (told_above 0 (picks packages question.All)) refl
  query_above packages chosen (text ∷ texts) = turn_above packages chosen 0 (text ∷ texts)
