-- The first zero byte among the first 16.
use Rattle.std.proofs.Common.{◌≡◌, ℕ, ◌<◌, ◌≤◌, List, length, take, get_or, map, min, Some, true, sym, ap, subst, ◌∙◌, arith, lt-ltb, inl, inr}
use Rattle.rpm_header.proofs.Vocabulary.{count_trailing_zeros, is_zero, position, position_or_len, trailing_of_zero}
use Rattle.std.proofs.lemmas.Bool.{cases_eq, cond-true}
use Rattle.std.proofs.lemmas.List.{length-take, get_or-take}
use Rattle.std.proofs.lemmas.List.Sums.{position_or_len_is, fails_before_first, passes_at_first}
use Rattle.std.proofs.lemmas.Simd.{trailing_mask_l}
use lib.Lanes.{mask_l}

-- the first zero byte of the first 16 is the first of all
first_of_all : (bytes : List ℕ) (end : ℕ) → 16 ≤ length bytes → position_or_len is_zero (take 16 bytes) ≡ end → end < 16
    → position is_zero bytes ≡ Some end
first_of_all bytes end long first near =
    let size = length-take 16 bytes in
    let whole : position_or_len is_zero bytes ≡ end =
    position_or_len_is is_zero bytes end 0 (omega arith)
    (λ k before. ap is_zero (sym (get_or-take 16 bytes k 0 (omega arith))) ∙ fails_before_first is_zero (take 16 bytes) k 0 (omega (arith, first)))
    (λ _. ap is_zero (sym (get_or-take 16 bytes end 0 near))
    ∙ subst (λ (e : ℕ). is_zero (get_or (take 16 bytes) e 0) ≡ true) first (passes_at_first is_zero (take 16 bytes) 0 (omega (arith, first, size)))) in
    cond-true _ _ _ (lt-ltb (position_or_len is_zero bytes) (length bytes) (omega (arith, whole))) ∙ ap Some whole

-- it stands where the lowest bit is set, of a bit for each zero byte
pub first_near : (bytes : List ℕ) (mask end : ℕ) → 16 ≤ length bytes → mask ≡ mask_l (map is_zero (take 16 bytes))
    → end ≡ min (count_trailing_zeros 64 mask) 16 → end < 16 → position is_zero bytes ≡ Some end
first_near bytes mask end long is least near =
    let size = length-take 16 bytes in
    let lowest : count_trailing_zeros 64 (mask_l (map is_zero (take 16 bytes))) ≡ end = ap (count_trailing_zeros 64) (sym is) ∙ omega (arith, least) in
    elim (cases_eq mask 0) [
      | inl none ↦ absurd (let all = ap (count_trailing_zeros 64) none ∙ trailing_of_zero 64 in omega (arith, least, all))
      | inr some ↦ first_of_all bytes end long
          (sym (trailing_mask_l is_zero 64 (take 16 bytes) (omega (arith, size)) (omega (arith, is, some))) ∙ lowest) near
    ]
