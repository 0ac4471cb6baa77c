-- The number of a width, digit by digit.
use Rattle.std.proofs.Common.{◌≡◌, ℕ, suc, ◌+◌, ◌*◌, ◌-◌, ◌<◌, ◌≤◌, List, [], ◌∷◌, length, take, drop, get_or, Bool, true, false, cond, refl, ◌∙◌, ap, arith, if◌then◌else◌}
use Rattle.rpm_qfparse.proofs.Vocabulary.{after_number, digit_count, digit_value, digits_value_after, is_ascii_digit, number_of}
use Rattle.std.proofs.lemmas.Str.{digit_value_digit}

-- the number of which n are the first digits, and the text has the others in front
unfoldable pub number_from : ℕ → List ℕ → ℕ
number_from n [] = n
number_from n (b ∷ s) = if is_ascii_digit b then number_from (10 * n + (b - 48)) s else n

unfoldable pub after_digits : List ℕ → List ℕ
after_digits [] = []
after_digits (b ∷ s) = if is_ascii_digit b then after_digits s else b ∷ s

in_range : (b : ℕ) → is_ascii_digit b ≡ true → 48 ≤ b × b ≤ 57
in_range b e = grind (arith)

one_more : (k : ℕ) → suc k ≡ 1 + k
one_more k = omega arith

number_by : (n b : ℕ) (s : List ℕ) (v : Bool) → is_ascii_digit b ≡ v → ((m : ℕ) → number_from m s ≡ digits_value_after 10 m (take (digit_count s) s))
    → cond v (number_from (10 * n + (b - 48)) s) n ≡ digits_value_after 10 n (take (cond v (1 + digit_count s) 0) (b ∷ s))
number_by n b s true e more =
    let d : digit_value b + 48 ≡ b = digit_value_digit b (in_range b e) in
    let same : 10 * n + (b - 48) ≡ n * 10 + digit_value b = omega arith in
    more (10 * n + (b - 48)) ∙ ap (λ m. digits_value_after 10 m (take (digit_count s) s)) same ∙ ap (λ k. digits_value_after 10 n (take k (b ∷ s)))
    (one_more (digit_count s))
number_by n b s false e more = refl

pub number_is : (n : ℕ) (s : List ℕ) → number_from n s ≡ digits_value_after 10 n (take (digit_count s) s)
unfolding number_from
number_is n [] = refl
number_is n (b ∷ s) = number_by n b s (is_ascii_digit b) refl (λ m. number_is m s)

pub after_is : (s : List ℕ) → after_digits s ≡ drop (digit_count s) s
unfolding after_digits
after_is [] = refl
after_is (b ∷ s) =
    elim (is_ascii_digit b) as (λ v. cond v (after_digits s) (b ∷ s) ≡ drop (cond v (1 + digit_count s) 0) (b ∷ s))
    [ true ↦ after_is s ∙ ap (λ k. drop k (b ∷ s)) (one_more (digit_count s)) | false ↦ refl ]

pub number_of_is : (s : List ℕ) → number_from 0 s ≡ number_of s
unfolding number_of
number_of_is s = number_is 0 s

pub after_number_is : (s : List ℕ) → after_digits s ≡ after_number s
unfolding after_number
after_number_is s = after_is s

-- a number only grows by further digits
pub number_grows : (n : ℕ) (s : List ℕ) → n ≤ number_from n s
unfolding number_from
number_grows n [] = omega arith
number_grows n (b ∷ s) =
    let h : 10 * n + (b - 48) ≤ number_from (10 * n + (b - 48)) s = number_grows (10 * n + (b - 48)) s in
    elim (is_ascii_digit b) as (λ v. n ≤ cond v (number_from (10 * n + (b - 48)) s) n) [ true ↦ omega arith | false ↦ omega arith ]

digit_here : (b : ℕ) → 48 ≤ b → b < 58 → is_ascii_digit b ≡ true
digit_here b lo hi = grind (arith)

pub too_large : (n : ℕ) (s text : List ℕ) → 1 ≤ length s → 48 ≤ get_or s 0 0 → get_or s 0 0 < 58 → number_from n s ≡ number_of text → 4096
    < 10 * n + (get_or s 0 0 - 48) → 4096 < number_of text
unfolding number_from
too_large n [] text some lo hi e big = absurd (omega arith)
too_large n (b ∷ s) text some lo hi e big =
    let h : 10 * n + (b - 48) ≤ number_from (10 * n + (b - 48)) s = number_grows (10 * n + (b - 48)) s in
    let d : is_ascii_digit b ≡ true = digit_here b lo hi in
    let k : number_from (10 * n + (b - 48)) s ≡ number_of text = rw d at e in
    omega arith
