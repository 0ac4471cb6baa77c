-- The numbers of some packages of a map.
use Rattle.std.proofs.Common.{◌≡◌, ℕ, ◌==◌, List, [], ◌∷◌, map, Bool, true, false, Option, Some, None, refl, sym, ap, ◌∙◌, inl, inr, arith}
use Rattle.std.specs.Prelude.{T, filter}
use Rattle.rpm_check.proofs.Vocabulary.{AreAbove, below_all, both_true, is_below, is_in, is_lt, nat_cmp, none_below, or_cases, Package, Rises, unsigned_tied}
use Rattle.std.specs.FinMap as finite
use Rattle.std.proofs.lemmas.Bool.{cases_Bool, eqb-true, eq-eqb}
use Rattle.std.proofs.lemmas.Bool.Decides.{nat_tests}

abbrev pub numbers : List (ℕ × Package) → List ℕ
numbers es = map (λ e. e.0) es

above_first : (P : ℕ × Package → Bool) (x : ℕ) (es : List (ℕ × Package)) → T (below_all nat_cmp x es) → AreAbove x (numbers (filter P es))
above_first P x [] t n is = absurd cc
above_first P x (e ∷ es) t n is =
    let s = both_true (is_lt (nat_cmp x e.0)) (below_all nat_cmp x es) t in
    elim (cases_Bool (P e)) [
      | inl takes ↦ elim (or_cases (e.0 == n) (is_in n (numbers (filter P es))) (rw takes at is)) [
        | inl here ↦ (let eq : e.0 ≡ n = eqb-true e.0 n here in let lt = is_below x e.0 s.0 in omega (arith, eq, lt))
        | inr later ↦ above_first P x es s.1 n later
      ]
      | inr other ↦ above_first P x es s.1 n (rw other at is)
    ]

pub numbers_rise : (P : ℕ × Package → Bool) (es : List (ℕ × Package)) → T (finite.is_sorted nat_cmp es) → Rises (numbers (filter P es))
numbers_rise P [] t = tt
numbers_rise P (e ∷ es) t =
    let s = both_true (below_all nat_cmp e.0 es) (finite.is_sorted nat_cmp es) t in
    elim (cases_Bool (P e)) [
      | inl takes ↦ rw takes (above_first P e.0 es s.0, numbers_rise P es s.1)
      | inr other ↦ rw other (numbers_rise P es s.1)
    ]

-- whether the package of this number is one of them
abbrev pub holds_at : (ℕ × Package → Bool) → ℕ → Option Package → Bool
holds_at P n None = false
holds_at P n (Some p) = P (n, p)

pub in_numbers : (P : ℕ × Package → Bool) (n : ℕ) (es : List (ℕ × Package)) → T (finite.is_sorted nat_cmp es)
    → is_in n (numbers (filter P es)) ≡ holds_at P n (finite.find nat_cmp n es)
in_numbers P n [] t = refl
in_numbers P n (e ∷ es) t =
    let s = both_true (below_all nat_cmp e.0 es) (finite.is_sorted nat_cmp es) t in
    let rest = in_numbers P n es s.1 in
    let tied = unsigned_tied n e.0 in
    elim (cases_Bool (n == e.0)) [
      | inl same ↦
          (let eq : n ≡ e.0 = eqb-true n e.0 same in
          let found : finite.find nat_cmp n (e ∷ es) ≡ Some e.1 = rw (tied ∙ same) refl in
          let none : is_in n (numbers (filter P es)) ≡ false =
          rest ∙ ap (holds_at P n) (none_below n e.0 es s.0 (omega (arith, eq))) in
          let back : (e.0 == n) ≡ true = eq-eqb e.0 n (sym eq) in
          let name : P (n, e.1) ≡ P e = ap (λ (i : ℕ). P (i, e.1)) eq in
          elim (cases_Bool (P e)) [
            | inl takes ↦ rw (takes, back) (sym (ap (holds_at P n) found ∙ name ∙ takes))
            | inr other ↦ rw other (none ∙ sym (ap (holds_at P n) found ∙ name ∙ other))
          ])
      | inr apart ↦
          (let found : finite.find nat_cmp n (e ∷ es) ≡ finite.find nat_cmp n es = rw (tied ∙ apart) refl in
          let back : (e.0 == n) ≡ false = grind (arith, nat_tests) in
          elim (cases_Bool (P e)) [
            | inl takes ↦ rw (takes, back) (rest ∙ sym (ap (holds_at P n) found))
            | inr other ↦ rw other (rest ∙ sym (ap (holds_at P n) found))
          ])
    ]
