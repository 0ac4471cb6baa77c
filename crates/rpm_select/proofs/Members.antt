-- The members of a set, one by one.
use Rattle.std.proofs.Common.{◌≡◌, ℕ, ◌-◌, ◌<◌, List, [], ◌∷◌, length, take, drop, Bool, true, false, ◌||◌, ◌==◌, suc, nat_lt, refl, sym, ap, ◌∙◌, inl, inr, arith}
use Rattle.std.proofs.lemmas.Bool.{cases_Bool, lt-ltb}
use Rattle.std.proofs.lemmas.List.{take_all, length-drop}
use Rattle.rpm_select.proofs.Vocabulary.{first_has, first_len, is_member}

or_false : (x : Bool) → (x || false) ≡ x
or_false true = refl
or_false false = refl

or_assoc : (x y z : Bool) → ((x || y) || z) ≡ (x || (y || z))
or_assoc true y z = refl
or_assoc false y z = refl

pub member_step : (b : ℕ) (xs : List ℕ) → 0 < length xs → is_member b xs ≡ (first_has b xs || is_member b (drop (first_len xs) xs))
member_step b [] some = absurd (omega arith)
member_step b (x ∷ []) some = sym (or_false (b == x))
member_step b (x ∷ d ∷ []) some = refl
member_step b (x ∷ d ∷ y ∷ members) some =
    let long : nat_lt 2 (length (x ∷ d ∷ y ∷ members)) ≡ true = lt-ltb 2 (length (x ∷ d ∷ y ∷ members)) (omega arith) in
    elim (cases_Bool (d == 45)) [
      | inl dash ↦ rw (long, dash) refl
      | inr other ↦ rw (long, other) refl
    ]

-- what follows so many bytes
pub rest_is : (n : ℕ) (xs : List ℕ) → take (length xs - n) (drop n xs) ≡ drop n xs
rest_is n xs = take_all (length xs - n) (drop n xs) (omega (arith, length-drop n xs))

pub passed : (b : ℕ) (xs : List ℕ) (n : ℕ) (r : Bool) → 0 < length xs → n ≡ first_len xs → false ≡ first_has b xs → is_member b xs ≡ r
    → is_member b (take (length xs - n) (drop n xs)) ≡ r
passed b xs n r some size other before =
    ap (is_member b) (rest_is n xs) ∙ ap (λ (k : ℕ). is_member b (drop k xs)) size
    ∙ sym (member_step b xs some ∙ ap (λ (x : Bool). x || is_member b (drop (first_len xs) xs)) (sym other)) ∙ before

pub found : (b : ℕ) (xs : List ℕ) (r : Bool) → 0 < length xs → true ≡ first_has b xs → is_member b xs ≡ r → true ≡ r
found b xs r some has before = sym (member_step b xs some ∙ ap (λ (x : Bool). x || is_member b (drop (first_len xs) xs)) (sym has)) ∙ before

pub none_left : (b : ℕ) (xs : List ℕ) (r : Bool) → length xs ≡ 0 → is_member b xs ≡ r → false ≡ r
none_left b [] r none before = before
none_left b (x ∷ xs) r none before = absurd (omega arith)

pub rest_len : (xs : List ℕ) → 0 < length xs → length xs ≡ suc (length (take (length xs - 1) (drop 1 xs)))
rest_len xs some = rw (rest_is 1 xs) (omega (arith, length-drop 1 xs))
