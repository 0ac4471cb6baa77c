-- The numbers of the candidates, by which they are told.
use Rattle.std.proofs.Common.{◌≡◌, ℕ, ◌==◌, List, [], ◌∷◌, map, Bool, true, false, Some, refl, sym, ap, ◌∙◌, inl, inr, arith}
use Rattle.std.specs.Prelude.{T, filter}
use Rattle.rpm_select.proofs.Vocabulary.{AreAbove, below_all, both_true, candidates, is_below, is_candidate, is_in, is_lt, IsStrictlyIncreasing, nat_cmp}
use Rattle.rpm_select.proofs.Vocabulary.{none_below, or_cases, Package, Rises, rises, same_members, Selection, unsigned_tied}
use Rattle.std.specs.FinMap as finite
use Rattle.std.proofs.lemmas.Bool.{cases_Bool, eqb-true, eq-eqb}
use Rattle.std.proofs.lemmas.Bool.Decides.{nat_tests}
use Rattle.rpm_select.proofs.Having.{is_candidate_at}

abbrev numbers : List (ℕ × Package) → List ℕ
numbers es = map (λ e. e.0) es

above_first : (P : ℕ × Package → Bool) (x : ℕ) (es : List (ℕ × Package)) → T (below_all nat_cmp x es) → AreAbove x (numbers (filter P es))
above_first P x [] t n is = absurd cc
above_first P x (e ∷ es) t n is =
    let s = both_true (is_lt (nat_cmp x e.0)) (below_all nat_cmp x es) t in
    elim (cases_Bool (P e)) [
      | inl takes ↦ elim (or_cases (e.0 == n) (is_in n (numbers (filter P es))) (rw takes at is)) [
        | inl here ↦ (let eq : e.0 ≡ n = eqb-true e.0 n here in let lt = is_below x e.0 s.0 in omega (arith, eq, lt))
        | inr later ↦ above_first P x es s.1 n later
      ]
      | inr other ↦ above_first P x es s.1 n (rw other at is)
    ]

numbers_rise : (P : ℕ × Package → Bool) (es : List (ℕ × Package)) → T (finite.is_sorted nat_cmp es) → Rises (numbers (filter P es))
numbers_rise P [] t = tt
numbers_rise P (e ∷ es) t =
    let s = both_true (below_all nat_cmp e.0 es) (finite.is_sorted nat_cmp es) t in
    elim (cases_Bool (P e)) [
      | inl takes ↦ rw takes (above_first P e.0 es s.0, numbers_rise P es s.1)
      | inr other ↦ rw other (numbers_rise P es s.1)
    ]

-- one of them is a candidate, as its number tells
candidate_in : (sel : Selection) (n : ℕ) (es : List (ℕ × Package)) → T (finite.is_sorted nat_cmp es)
    → is_in n (numbers (filter (is_candidate sel) es)) ≡ is_candidate_at sel n (finite.find nat_cmp n es)
candidate_in sel n [] t = refl
candidate_in sel n (e ∷ es) t =
    let s = both_true (below_all nat_cmp e.0 es) (finite.is_sorted nat_cmp es) t in
    let rest = candidate_in sel n es s.1 in
    let tied = unsigned_tied n e.0 in
    elim (cases_Bool (n == e.0)) [
      | inl same ↦
          (let eq : n ≡ e.0 = eqb-true n e.0 same in
          let found : finite.find nat_cmp n (e ∷ es) ≡ Some e.1 = rw (tied ∙ same) refl in
          let none : is_in n (numbers (filter (is_candidate sel) es)) ≡ false =
          rest ∙ ap (is_candidate_at sel n) (none_below n e.0 es s.0 (omega (arith, eq))) in
          let back : (e.0 == n) ≡ true = eq-eqb e.0 n (sym eq) in
          let name : is_candidate sel (n, e.1) ≡ is_candidate sel e = ap (λ (i : ℕ). is_candidate sel (i, e.1)) eq in
          elim (cases_Bool (is_candidate sel e)) [
            | inl takes ↦ rw (takes, back) (sym (ap (is_candidate_at sel n) found ∙ name ∙ takes))
            | inr other ↦ rw other (none ∙ sym (ap (is_candidate_at sel n) found ∙ name ∙ other))
          ])
      | inr apart ↦
          (let found : finite.find nat_cmp n (e ∷ es) ≡ finite.find nat_cmp n es = rw (tied ∙ apart) refl in
          let back : (e.0 == n) ≡ false = grind (arith, nat_tests) in
          elim (cases_Bool (is_candidate sel e)) [
            | inl takes ↦ rw (takes, back) (rest ∙ sym (ap (is_candidate_at sel n) found))
            | inr other ↦ rw other (rest ∙ sym (ap (is_candidate_at sel n) found))
          ])
    ]

pub candidates_in : (packages : finite.FinMap nat_cmp Package) (sel : Selection) (n : ℕ)
    → is_in n (map (λ e. e.0) (candidates packages sel)) ≡ is_candidate_at sel n (finite.get packages n)
unfolding candidates
candidates_in packages sel n =
    candidate_in sel n (finite.entries packages) (finite.entries_sorted packages) ∙ ap (is_candidate_at sel n) (sym (finite.get-entries packages n))

-- rising numbers that are those of the candidates are their list
pub are_candidates : (packages : finite.FinMap nat_cmp Package) (sel : Selection) (ns : List ℕ) → IsStrictlyIncreasing ns
    → ((n : ℕ) → is_in n ns ≡ is_candidate_at sel n (finite.get packages n)) → ns ≡ map (λ e. e.0) (candidates packages sel)
unfolding candidates
are_candidates packages sel ns rising same =
    same_members ns (numbers (filter (is_candidate sel) (finite.entries packages))) (rises ns rising)
    (numbers_rise (is_candidate sel) (finite.entries packages) (finite.entries_sorted packages))
    (λ n. same n ∙ sym (candidates_in packages sel n))
