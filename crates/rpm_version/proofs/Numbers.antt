-- Two runs of digits without leading zeros compare as the numbers that they write.
use Rattle.std.proofs.Common.{◌≡◌, ◌≢◌, ℕ, suc, ◌+◌, ◌*◌, ◌-◌, ◌^◌, ◌<◌, ◌≤◌, List, [], ◌∷◌, length, refl, sym, ap, ◌∙◌, subst, arith}
use Rattle.rpm_version.proofs.Vocabulary.{AllDigits, digit_value, digits_value, digits_value_after, Equal, Greater, Less, MatchOrdering, nat_cmp, nat_cmp_is}
use Rattle.rpm_version.proofs.Vocabulary.{Ordering, ordering_then, slice_cmp, slice_index}
use Rattle.std.proofs.lemmas.Bool.Decides.{nat_tests}
use Rattle.std.proofs.lemmas.Cmp.{ranked}
use Rattle.std.proofs.lemmas.Int.Digits.{digits_value-lt}
use Rattle.std.proofs.Math.Nat.{pow-suc, pow-le-pow_right, mul-le-mul_right}

spread : (n d p v : ℕ) → (n * 10 + d) * p + v ≡ n * (p * 10) + ((0 * 10 + d) * p + v)
spread n d p v = omega arith

weight : (n : ℕ) (ds : List ℕ) → digits_value_after 10 n ds ≡ n * 10 ^ length ds + digits_value 10 ds
weight n [] = omega arith
weight n (c ∷ cs) =
    weight (n * 10 + digit_value c) cs ∙ spread n (digit_value c) (10 ^ length cs) (digits_value 10 cs)
    ∙ sym (ap (λ q. n * q + digits_value 10 (c ∷ cs)) (pow-suc 10 (length cs)) ∙ ap (λ q. n * (10 ^ length cs * 10) + q) (weight (0 * 10 + digit_value c) cs))

-- the first digit stands for so many times a power of ten
pub digits_value-cons : (c : ℕ) (cs : List ℕ) → digits_value 10 (c ∷ cs) ≡ digit_value c * 10 ^ length cs + digits_value 10 cs
digits_value-cons c cs = omega (arith, weight (0 * 10 + digit_value c) cs)

less : (a b : ℕ) → a < b → nat_cmp a b ≡ Less
less a b h = sym (nat_cmp_is a b Less h)

equal : (a b : ℕ) → a ≡ b → nat_cmp a b ≡ Equal
equal a b h = sym (nat_cmp_is a b Equal h)

greater : (a b : ℕ) → b < a → nat_cmp a b ≡ Greater
greater a b h = sym (nat_cmp_is a b Greater h)

nat_cmp-add_by : (n a b : ℕ) (r : Ordering) → MatchOrdering r (a < b) (a ≡ b) (b < a) → nat_cmp (n + a) (n + b) ≡ r
nat_cmp-add_by n a b Less h = less (n + a) (n + b) (omega arith)
nat_cmp-add_by n a b Equal h = equal (n + a) (n + b) (omega arith)
nat_cmp-add_by n a b Greater h = greater (n + a) (n + b) (omega arith)

nat_cmp-add : (n a b : ℕ) → nat_cmp (n + a) (n + b) ≡ nat_cmp a b
nat_cmp-add n a b = nat_cmp-add_by n a b (nat_cmp a b) (ranked a b (nat_cmp a b) refl)

-- a place of a greater weight decides first
place_by : (p a b u v : ℕ) (r : Ordering) → u < p → v < p → MatchOrdering r (a < b) (a ≡ b) (b < a) →
    nat_cmp (a * p + u) (b * p + v) ≡ ordering_then r (nat_cmp u v)
place_by p a b u v Less hu hv h =
    let step : (a + 1) * p ≤ b * p = mul-le-mul_right p (omega arith) in
    less (a * p + u) (b * p + v) (omega arith)
place_by p a b u v Equal hu hv h = rw h (nat_cmp-add (b * p) u v)
place_by p a b u v Greater hu hv h =
    let step : (b + 1) * p ≤ a * p = mul-le-mul_right p (omega arith) in
    greater (a * p + u) (b * p + v) (omega arith)

place : (p a b u v : ℕ) → u < p → v < p → nat_cmp (a * p + u) (b * p + v) ≡ ordering_then (nat_cmp a b) (nat_cmp u v)
place p a b u v hu hv = place_by p a b u v (nat_cmp a b) hu hv (ranked a b (nat_cmp a b) refl)

-- a digit's byte is its value above that of '0'
byte_of : (c : ℕ) → digit_value c < 10 → c ≡ 48 + digit_value c
byte_of c h = grind (arith, nat_tests)

bytes_compare : (b c : ℕ) → digit_value b < 10 → digit_value c < 10 → nat_cmp b c ≡ nat_cmp (digit_value b) (digit_value c)
bytes_compare b c h k =
    ap (λ x. nat_cmp x c) (byte_of b h) ∙ ap (nat_cmp (48 + digit_value b)) (byte_of c k) ∙ nat_cmp-add 48 (digit_value b) (digit_value c)

-- runs of one length
level : (xs ys : List ℕ) → AllDigits 10 xs → AllDigits 10 ys → length xs ≡ length ys →
    slice_cmp nat_cmp xs ys ≡ nat_cmp (digits_value 10 xs) (digits_value 10 ys)
level [] [] h k e = refl
level [] (y ∷ ys) h k e = absurd (omega arith)
level (x ∷ xs) [] h k e = absurd (omega arith)
level (x ∷ xs) (y ∷ ys) h k e =
    let same : length xs ≡ length ys = omega arith in
    let u : digits_value 10 xs < 10 ^ length xs = digits_value-lt 10 xs h.1 in
    let v : digits_value 10 ys < 10 ^ length xs = rw same (digits_value-lt 10 ys k.1) in
    let first = bytes_compare x y h.0 k.0 in
    let more = level xs ys h.1 k.1 same in
    let right : digit_value y * 10 ^ length xs + digits_value 10 ys ≡ digits_value 10 (y ∷ ys) =
    ap (λ n. digit_value y * 10 ^ n + digits_value 10 ys) same ∙ sym (digits_value-cons y ys) in
    (λ i. ordering_then (first i) (more i))
    ∙ sym (place (10 ^ length xs) (digit_value x) (digit_value y) (digits_value 10 xs) (digits_value 10 ys) u v)
    ∙ (λ i. nat_cmp (sym (digits_value-cons x xs) i) (right i))

-- a run that does not begin with a zero is at least the power of ten of its first place
at_least : (ys : List ℕ) → AllDigits 10 ys → slice_index ys 0 ≢ 48 → 0 < length ys → 10 ^ (length ys - 1) ≤ digits_value 10 ys
at_least [] h k m = absurd (omega arith)
at_least (y ∷ ys) h k m =
    let byte : y ≡ 48 + digit_value y = byte_of y h.0 in
    let not_zero : y ≢ 48 = k in
    let step : 1 * 10 ^ length ys ≤ digit_value y * 10 ^ length ys = mul-le-mul_right (10 ^ length ys) (omega arith) in
    let value : digits_value 10 (y ∷ ys) ≡ digit_value y * 10 ^ length ys + digits_value 10 ys = digits_value-cons y ys in
    let place : suc (length ys) - 1 ≡ length ys = omega arith in
    subst (λ n. 10 ^ n ≤ digits_value 10 (y ∷ ys)) (sym place) (subst (λ n. 10 ^ length ys ≤ n) (sym value) (omega arith))

longer : (xs ys : List ℕ) → AllDigits 10 xs → AllDigits 10 ys → slice_index ys 0 ≢ 48 → length xs < length ys → digits_value 10 xs < digits_value 10 ys
longer xs ys h k z m =
    let power : 10 ^ length xs ≤ 10 ^ (length ys - 1) = pow-le-pow_right {n = 10} (omega arith) (omega arith) in
    omega (arith, digits_value-lt 10 xs h, at_least ys k z (omega arith))

by_length : (xs ys : List ℕ) (r : Ordering) → AllDigits 10 xs → AllDigits 10 ys → slice_index xs 0 ≢ 48 → slice_index ys 0 ≢ 48 →
    MatchOrdering r (length xs < length ys) (length xs ≡ length ys) (length ys < length xs) →
    ordering_then r (slice_cmp nat_cmp xs ys) ≡ nat_cmp (digits_value 10 xs) (digits_value 10 ys)
by_length xs ys Less h k zx zy m = sym (less (digits_value 10 xs) (digits_value 10 ys) (longer xs ys h k zy m))
by_length xs ys Equal h k zx zy m = level xs ys h k m
by_length xs ys Greater h k zx zy m = sym (greater (digits_value 10 xs) (digits_value 10 ys) (longer ys xs k h zx m))

pub numbers_compare : (xs ys : List ℕ) → AllDigits 10 xs → AllDigits 10 ys → slice_index xs 0 ≢ 48 → slice_index ys 0 ≢ 48 →
    ordering_then (nat_cmp (length xs) (length ys)) (slice_cmp nat_cmp xs ys) ≡ nat_cmp (digits_value 10 xs) (digits_value 10 ys)
numbers_compare xs ys h k zx zy =
    by_length xs ys (nat_cmp (length xs) (length ys)) h k zx zy (ranked (length xs) (length ys) (nat_cmp (length xs) (length ys)) refl)
