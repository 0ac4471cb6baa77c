-- Sorted pairs without one of them.
use Rattle.std.proofs.Common.{◌≡◌, ◌≢◌, ℕ, zero, suc, ◌+◌, ◌<◌, ◌≤◌, ◌⊎◌, inl, inr, [], ◌∷◌, length, sym, ap, ◌∙◌, arith}
use Rattle.rpm_pkgdb.proofs.Vocabulary.{MapWithoutOne, find_in, IsStrictlySorted, key_at_place, Pairs, remove}
use Rattle.std.proofs.lemmas.List.Edits.{get_or-remove_below, get_or-remove_above}
use Rattle.std.proofs.lemmas.Bool.{cases_lt}
use Rattle.std.proofs.lemmas.Bool.Decides.{nat_tests}
use Rattle.rpm_pkgdb.proofs.Place.{absent}

length_removed : (l : Pairs) (i : ℕ) → i < length l → length (remove l i) + 1 ≡ length l
length_removed [] i below = absurd (omega arith)
length_removed (x ∷ l) zero below = omega arith
length_removed (x ∷ l) (suc i) below = (let rest = length_removed l i (omega arith) in omega arith)

find_other : (l : Pairs) (i n : ℕ) → i < length l → key_at_place l i ≢ n → find_in (remove l i) n ≡ find_in l n
find_other [] i n below differs = absurd (omega arith)
find_other (x ∷ l) zero n below differs = grind (arith, nat_tests)
find_other (x ∷ l) (suc i) n below differs = grind (arith, nat_tests, find_other l i n (omega arith) differs)

module _ (l : Pairs) (i : ℕ) (below : i < length l) (sorted : IsStrictlySorted l) where
  removed_at : (j : ℕ) → ((j < i) × (key_at_place (remove l i) j ≡ key_at_place l j)) ⊎ ((i ≤ j) × (key_at_place (remove l i) j ≡ key_at_place l (j + 1)))
  removed_at j = elim (cases_lt j i) [
    | inl lt ↦ inl (lt, ap (λ (p : ℕ × ℕ). p.0) (get_or-remove_below l i (0, 0) j lt below))
    | inr ge ↦ inr (ge, ap (λ (p : ℕ × ℕ). p.0) (get_or-remove_above l i (0, 0) j ge below))
  ]

  pub removed_drops : (n : ℕ) → key_at_place l i ≡ n → MapWithoutOne (find_in l) (find_in (remove l i)) n
  removed_drops n is =
      let long = length_removed l i below in
      record {
        gone = absent (remove l i) n (λ j lt same. elim (removed_at j) [
          | inl one ↦ omega (arith, one.1, sorted j i one.0 below)
          | inr one ↦ omega (arith, one.1, sorted i (j + 1) (omega (arith, one.0)) (omega arith))
        ]);
        others = λ k differs. find_other l i k below (λ same. differs (sym same ∙ is));
      }
