-- The numbers of packages that are picked rise.
use Rattle.std.proofs.Common.{◌≡◌, ℕ, ◌<◌, Bool, true, false, List, [], ◌∷◌, map, refl, sym, ap, ◌∙◌, subst, inl, inr}
use Rattle.std.proofs.Common.{arith, nat_lt}
use Rattle.std.specs.Prelude.{T, nat_le}
use Rattle.std.specs.FinMap.Entries.{below_all}
use Rattle.std.specs.List.{filter, list_any}
use Rattle.std.specs.Ordering.{nat_cmp}
use Rattle.std.specs.FinMap as finite
use Rattle.std.proofs.lemmas.Bool.{cases_Bool}
use Rattle.std.proofs.lemmas.Bool.Decides.{nat_tests}
use Rattle.rpm_db.proofs.laws.Above.{both_true}
use Rattle.rpm_db.proofs.laws.Kept.{kept_above}
use Rattle.rpm_db.specs.State.{above, Package}
use Rattle.rpm_select.specs.Picks.{is_some_of}
use Rattle.rpm_effects.specs.Portions.{RisesFrom}

module _ {X : Type 0} (p : ℕ × X → Bool) where
  -- those above a number rise
  pub rises_above : (n : ℕ) (es : List (ℕ × X)) → T (finite.is_sorted nat_cmp es)
      → RisesFrom n (map (λ e. e.0) (above n (filter p es)))
  rises_above n [] t = tt
  rises_above n (x ∷ xs) t =
      let s = both_true (below_all nat_cmp x.0 xs) (finite.is_sorted nat_cmp xs) t in
      elim (cases_Bool (p x)) [
        | inr other ↦ rw other (rises_above n xs s.1)
        | inl takes ↦ elim (cases_Bool (nat_lt n x.0)) [
          | inr under ↦ simp (takes, under) (rises_above n xs s.1)
          | inl over ↦
              (let lt : n < x.0 = grind (arith, nat_tests) in
              let same : above n (filter p xs) ≡ above x.0 (filter p xs) = kept_above p n x.0 xs s.0 (omega (arith, lt))
              ∙ sym (kept_above p x.0 x.0 xs s.0 (omega arith)) in
              let later : RisesFrom x.0 (map (λ e. e.0) (above n (filter p xs))) =
              subst (λ (ys : List (ℕ × X)). RisesFrom x.0 (map (λ e. e.0) ys)) (sym same) (rises_above x.0 xs s.1) in
              simp (takes, over) (lt, later))
        ]
      ]

-- where none is above a number, one that is there is at most that number
pub any_passed : (n : ℕ) (es : List (ℕ × Package)) → is_some_of (above n es) ≡ false → above 0 es ≡ es
    → list_any (λ e. nat_le e.0 n) (above 0 es) ≡ is_some_of es
any_passed n es none whole = ap (list_any (λ e. nat_le e.0 n)) whole ∙ any_of es none
  where
    any_of : (xs : List (ℕ × Package)) → is_some_of (above n xs) ≡ false
        → list_any (λ e. nat_le e.0 n) xs ≡ is_some_of xs
    any_of [] none = refl
    any_of (x ∷ xs) none = elim (cases_Bool (nat_lt n x.0)) [
      | inl over ↦ (let both : is_some_of (x ∷ above n xs) ≡ false = rw over at none in absurd cc)
      | inr under ↦ (let test : nat_le x.0 n ≡ true = grind (arith, nat_tests) in rw test refl)
    ]
