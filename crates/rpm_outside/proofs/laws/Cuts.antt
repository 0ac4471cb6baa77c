-- Bytes cut up into units.
use Rattle.std.proofs.Common.{◌≡◌, ℕ, zero, suc, ◌+◌, ◌*◌, ◌/◌, List, [], ◌∷◌, ◌++◌, take, drop, length, refl, sym, ◌∙◌}
use Rattle.std.proofs.Common.{ap, arith, length-drop, length-append, take-append-drop, append_assoc, get_or, ◌<◌}
use Rattle.std.proofs.lemmas.List.{append-nil, take_more, take_all, take-append-le, nil_from_length}
use Rattle.std.proofs.lemmas.List.{drop-append-le, drop_all, drop-drop}
use Rattle.rpm_outside.specs.Files.{Units, cut_up, units_of, bytes_of, unit_at, AreWhole}

pub length-cut_up : (n : ℕ) (bytes : List ℕ) → length (cut_up n bytes) ≡ n
length-cut_up zero bytes = refl
length-cut_up (suc n) bytes = ap suc (length-cut_up n (drop 16 bytes))

pub bytes_of-cut_up : (n : ℕ) (bytes : List ℕ) → length bytes ≡ 16 * n → bytes_of (cut_up n bytes) ≡ bytes
bytes_of-cut_up zero bytes is = sym (nil_from_length bytes (omega arith))
bytes_of-cut_up (suc n) bytes is =
    ap (λ (bs : List ℕ). take 16 bytes ++ bs) (bytes_of-cut_up n (drop 16 bytes) (omega (arith, length-drop 16 bytes)))
    ∙ take-append-drop 16 bytes

pub cut_up_one : (unit : List ℕ) → length unit ≡ 16 → units_of unit ≡ unit ∷ []
cut_up_one unit is =
    let one : length unit / 16 ≡ 1 = omega arith in
    ap (λ (n : ℕ). cut_up n unit) one ∙ ap (λ (u : List ℕ). u ∷ []) (take_all 16 unit (omega arith))

pub bytes_of-append : (us vs : Units) → bytes_of (us ++ vs) ≡ bytes_of us ++ bytes_of vs
bytes_of-append [] vs = refl
bytes_of-append (u ∷ us) vs =
    ap (λ (bs : List ℕ). u ++ bs) (bytes_of-append us vs) ∙ sym (append_assoc u (bytes_of us) (bytes_of vs))

pub bytes_of_more : (us : Units) (k : ℕ) (d : List ℕ) → k < length us
    → bytes_of (take (k + 1) us) ≡ bytes_of (take k us) ++ get_or us k d
bytes_of_more us k d below = ap bytes_of (take_more us k d below) ∙ bytes_of-append (take k us) (get_or us k d ∷ [])
    ∙ ap (λ (bs : List ℕ). bytes_of (take k us) ++ bs) (append-nil (get_or us k d))

cut_up-bytes_of : (us : Units) → AreWhole us → cut_up (length us) (bytes_of us) ≡ us
cut_up-bytes_of [] whole = refl
cut_up-bytes_of (u ∷ us) whole =
    let sixteen : length u ≡ 16 = whole 0 in
    let first : take 16 (u ++ bytes_of us) ≡ u = take-append-le 16 u (bytes_of us) (omega arith)
    ∙ take_all 16 u (omega arith) in
    let rest : drop 16 (u ++ bytes_of us) ≡ bytes_of us = drop-append-le 16 u (bytes_of us) (omega arith)
    ∙ ap (λ (bs : List ℕ). bs ++ bytes_of us)
    (drop_all 16 u (omega arith)) in
    ap (λ (bs : List ℕ). take 16 (u ++ bytes_of us) ∷ cut_up (length us) bs) rest
    ∙ ap (λ (x : List ℕ). x ∷ cut_up (length us) (bytes_of us)) first
    ∙ ap (λ (xs : Units). u ∷ xs) (cut_up-bytes_of us (λ k. whole (suc k)))

pub length-bytes_of : (us : Units) → AreWhole us → length (bytes_of us) ≡ 16 * length us
length-bytes_of [] whole = refl
length-bytes_of (u ∷ us) whole =
    length-append u (bytes_of us) ∙ omega (arith, whole 0, length-bytes_of us (λ k. whole (suc k)))

pub units_of-bytes_of : (us : Units) → AreWhole us → units_of (bytes_of us) ≡ us
units_of-bytes_of us whole =
    let n : length (bytes_of us) / 16 ≡ length us = omega (arith, length-bytes_of us whole) in
    ap (λ (k : ℕ). cut_up k (bytes_of us)) n ∙ cut_up-bytes_of us whole

-- unit k of these bytes
pub unit_at-cut_up : (n : ℕ) (bytes : List ℕ) (k : ℕ) → k < n
    → unit_at (cut_up n bytes) k ≡ take 16 (drop (16 * k) bytes)
unit_at-cut_up zero bytes k below = absurd (omega arith)
unit_at-cut_up (suc n) bytes zero below = refl
unit_at-cut_up (suc n) bytes (suc k) below =
    let e : 16 * suc k ≡ 16 + 16 * k = omega arith in
    unit_at-cut_up n (drop 16 bytes) k (omega arith)
    ∙ ap (λ (bs : List ℕ). take 16 bs) (drop-drop (16 * k) 16 bytes)
    ∙ ap (λ (i : ℕ). take 16 (drop i bytes)) (sym e)
