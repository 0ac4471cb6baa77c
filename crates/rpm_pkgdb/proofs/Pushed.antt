-- Sorted pairs with a greater one after them.
use Rattle.std.proofs.Common.{◌≡◌, ◌≢◌, inl, inr, ℕ, ◌<◌, [], ◌∷◌, ◌++◌, length, Option, Some, None, IsSome, refl, ap, arith}
use Rattle.std.proofs.lemmas.List.{get_or_append_left, get_or_push, length_push}
use Rattle.std.proofs.lemmas.Bool.{cases_lt}
use Rattle.std.proofs.lemmas.Bool.Decides.{nat_tests}
use Rattle.rpm_pkgdb.proofs.Vocabulary.{MapWithOne, find_in, IsStrictlySorted, key_at_place, Pairs}
use Rattle.rpm_pkgdb.proofs.Place.{found_at}

find_other : (l : Pairs) (n p m : ℕ) → m ≢ n → find_in (l ++ (n, p) ∷ []) m ≡ find_in l m
find_other [] n p m differs = grind (arith, nat_tests)
find_other (x ∷ l) n p m differs = grind (arith, nat_tests, find_other l n p m differs)

find_new : (l : Pairs) (n p : ℕ) → find_in l n ≡ None → find_in (l ++ (n, p) ∷ []) n ≡ Some p
find_new [] n p none = grind (arith, nat_tests)
find_new (x ∷ l) n p none = grind (arith, nat_tests, find_new l n p)

module _ (l : Pairs) (n p : ℕ) (sorted : IsStrictlySorted l) (above : (m : ℕ) → IsSome (find_in l m) → m < n) where
  key_below : (j : ℕ) → j < length l → key_at_place l j < n
  key_below j below = above (key_at_place l j) (is_some (found_at l sorted (key_at_place l j) j (record { in_range = below; has_key = refl })))
    where
      is_some : {o : Option ℕ} {x : ℕ} → o ≡ Some x → IsSome o
      is_some e = rw e refl

  pub pushed_sorted : IsStrictlySorted (l ++ (n, p) ∷ [])
  pushed_sorted i j lt in_range =
      let long = length_push l (n, p) in
      let first : key_at_place (l ++ (n, p) ∷ []) i ≡ key_at_place l i = ap (λ (x : ℕ × ℕ). x.0) (get_or_append_left l ((n, p) ∷ []) (0, 0) i (omega arith)) in
      elim (cases_lt j (length l)) [
        | inl below ↦
            (let second : key_at_place (l ++ (n, p) ∷ []) j ≡ key_at_place l j = ap (λ (x : ℕ × ℕ). x.0) (get_or_append_left l ((n, p) ∷ []) (0, 0) j below) in
            omega (arith, sorted i j lt below))
        | inr last ↦
            (let second : key_at_place (l ++ (n, p) ∷ []) j ≡ n = ap (λ (x : ℕ × ℕ). x.0) (get_or_push l (n, p) (0, 0) j (omega arith)) in
            omega (arith, key_below i (omega arith)))
      ]

  not_there : find_in l n ≡ None
  not_there = by_value (find_in l n) refl
    where
      by_value : (o : Option ℕ) → find_in l n ≡ o → find_in l n ≡ None
      by_value None e = e
      by_value (Some x) e = absurd (let s : IsSome (find_in l n) = rw e refl in omega (arith, above n s))

  pub pushed_adds : MapWithOne (find_in l) (find_in (l ++ (n, p) ∷ [])) n p
  pushed_adds = record { here = find_new l n p not_there; others = λ k differs. find_other l n p k differs }
