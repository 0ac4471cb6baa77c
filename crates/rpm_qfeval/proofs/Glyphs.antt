-- The digits of a number, from the last one on.
use Rattle.std.proofs.Common.{◌≡◌, ℕ, zero, suc, ◌-◌, ◌*◌, ◌/◌, ◌%◌, ◌^◌, ◌<◌, ◌≤◌, Bool, false, cond, ◌==◌, List, [], ◌∷◌, refl, ap, ◌∙◌, arith}
use Rattle.std.proofs.Math.Nat.{div-eq_of_lt, lt-div-mul-add, div-lt_iff_lt-mul, mod-eq-sub-div-mul, mul-le-mul_left, pow-suc}
use Rattle.std.proofs.lemmas.Bool.{ne_eqb, eq-eqb}
use Rattle.rpm_qfeval.proofs.Vocabulary.{digit_glyph, digits, digits_onto}

-- the last k digits of a number at most, and after them those that are known
unfoldable pub onto : ℕ → ℕ → ℕ → List ℕ → List ℕ
onto k base n acc = digits_onto k base false n acc

pub onto_all : (base n : ℕ) → onto 64 base n [] ≡ digits base false n
unfolding onto digits
onto_all base n = refl

is_some : (base n : ℕ) → 0 < base → base ≤ n → ¬ (n / base ≡ 0)
is_some base n pos h e = let f = rw e at (lt-div-mul-add {a = n} {b = base} pos) in omega (arith, f)

pub some_left : (base n : ℕ) → 0 < base → base ≤ n → 0 < n / base
some_left base n pos h = let f = is_some base n pos h in omega (arith, f)

quotient : (base n : ℕ) → 0 < base → base ≤ n → (n / base == 0) ≡ false
quotient base n pos h = ne_eqb (n / base) 0 (is_some base n pos h)

pub onto_more : (k base n : ℕ) (acc : List ℕ) → 0 < base → base ≤ n → onto (suc k) base n acc ≡ onto k base (n / base) (digit_glyph false (n % base) ∷ acc)
unfolding onto
onto_more k base n acc pos h = ap (λ (b : Bool). cond b (digit_glyph false (n % base) ∷ acc)
    (digits_onto k base false (n / base) (digit_glyph false (n % base) ∷ acc))) (quotient base n pos h)

pub onto_last : (k base n : ℕ) (acc : List ℕ) → n < base → onto (suc k) base n acc ≡ digit_glyph false n ∷ acc
unfolding onto
onto_last k base n acc h =
    let none : n / base ≡ 0 = div-eq_of_lt h in
    let same : n % base ≡ n = mod-eq-sub-div-mul n base ∙ rw none (omega arith) in
    ap (λ (b : Bool). cond b (digit_glyph false (n % base) ∷ acc) (digits_onto k base false (n / base) (digit_glyph false (n % base) ∷ acc)))
    (eq-eqb (n / base) 0 none)
    ∙ ap (λ d. digit_glyph false d ∷ acc) same

-- a digit less has room in a place less
pub less_room : (base n start : ℕ) → 8 ≤ base → 0 < start → n < 8 ^ start → n / base < 8 ^ (start - 1)
less_room base n start low pos h =
    let back : start ≡ suc (start - 1) = omega arith in
    let wide : n < 8 ^ (start - 1) * 8 = rw (← pow-suc 8 (start - 1), ← back) h in
    let wider : n < 8 ^ (start - 1) * base = omega (arith, wide, mul-le-mul_left (8 ^ (start - 1)) low) in
    (div-lt_iff_lt-mul {k = base} {x = n} {y = 8 ^ (start - 1)} (omega arith)).1 wider

-- there is room for a number
pub has_room : (n start : ℕ) → 0 < n → n < 8 ^ start → 0 < start
has_room n zero pos h = absurd (omega (arith, h))
has_room n (suc start) pos h = omega arith
