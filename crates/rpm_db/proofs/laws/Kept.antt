-- What is kept of a sorted list above a number.
use Rattle.std.proofs.Common.{◌≡◌, ℕ, ◌<◌, ◌≤◌, Bool, true, false, List, [], ◌∷◌, refl, sym, ap, ◌∙◌, subst, inl, inr}
use Rattle.std.proofs.Common.{arith, nat_lt}
use Rattle.std.specs.Prelude.{T}
use Rattle.std.specs.Ordering.{nat_cmp, is_lt}
use Rattle.std.specs.List.{filter}
use Rattle.std.specs.FinMap as finite
use Rattle.std.specs.FinMap.Entries.{below_all}
use Rattle.std.proofs.lemmas.Bool.{cases_Bool}
use Rattle.std.proofs.lemmas.Bool.Decides.{nat_tests}
use Rattle.rpm_db.specs.State.{above}
use Rattle.rpm_db.proofs.laws.Above.{both_true, is_below}

module _ {X : Type 0} (p : ℕ × X → Bool) where
  pub kept_above : (k x : ℕ) (es : List (ℕ × X)) → T (below_all nat_cmp x es) → k ≤ x
      → above k (filter p es) ≡ filter p es
  kept_above k x [] t le = refl
  kept_above k x (e ∷ es) t le =
      let s = both_true (is_lt (nat_cmp x e.0)) (below_all nat_cmp x es) t in
      let lt : x < e.0 = is_below x e.0 s.0 in
      let test : nat_lt k e.0 ≡ true = grind (arith, nat_tests) in
      elim (cases_Bool (p e)) [
        | inl takes ↦ simp (takes, test) (ap (λ ys. e ∷ ys) (kept_above k x es s.1 le))
        | inr other ↦ rw other (kept_above k x es s.1 le)
      ]

  pub split_above : (n : ℕ) (es : List (ℕ × X)) → T (finite.is_sorted nat_cmp es) → (e : ℕ × X) (rest : List (ℕ × X))
      → above n (filter p es) ≡ e ∷ rest → (n < e.0) × (rest ≡ above e.0 (filter p es))
  split_above n [] t e rest is = absurd cc
  split_above n (x ∷ xs) t e rest is =
      let s = both_true (below_all nat_cmp x.0 xs) (finite.is_sorted nat_cmp xs) t in
      elim (cases_Bool (p x)) [
        | inr other ↦ (let r = split_above n xs s.1 e rest (rw other at is) in rw other r)
        | inl takes ↦ elim (cases_Bool (nat_lt n x.0)) [
          | inl over ↦
              (let eq : x ∷ above n (filter p xs) ≡ e ∷ rest = rw over at (rw takes at is) in
              let same : x ≡ e = cc in
              let others : above n (filter p xs) ≡ rest = cc in
              let lt : n < x.0 = grind (arith, nat_tests) in
              let past : nat_lt x.0 x.0 ≡ false = grind (arith, nat_tests) in
              let kept = kept_above n x.0 xs s.0 (omega arith) in
              let again = kept_above x.0 x.0 xs s.0 (omega arith) in
              let whole : rest ≡ above x.0 (filter p (x ∷ xs)) = simp (takes, past) (sym others ∙ kept ∙ sym again) in (
                subst (λ (y : ℕ × X). n < y.0) same lt,
                subst
                    (λ (y : ℕ × X). rest ≡ above y.0 (filter p (x ∷ xs))) same whole,
              ))
          | inr under ↦
              (let r = split_above n xs s.1 e rest (rw under at (rw takes at is)) in
              let le : x.0 ≤ n = grind (arith, nat_tests) in
              let lt : n < e.0 = r.0 in
              let past : nat_lt e.0 x.0 ≡ false = grind (arith, nat_tests) in
              (r.0, simp (takes, past) r.1))
        ]
      ]
