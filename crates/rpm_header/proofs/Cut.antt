-- A header's own bytes, cut out of what they stand in front of.
use Rattle.std.proofs.Common.{◌≡◌, ℕ, suc, ◌+◌, ◌-◌, ◌*◌, ◌≤◌, List, [], ◌∷◌, length, take, drop, false, Ok, refl, sym, ◌∙◌, arith, le-ltb}
use Rattle.std.specs.Prelude.{nat_lt}
use Rattle.rpm_header.proofs.Vocabulary.{entries, fault_at, from_be_bytes, header, header_of, IsCutAsSaid, IsBlobSound, number_at, w32}
use Rattle.std.proofs.lemmas.List.{drop-take, length-take-le, take_all}
use Rattle.rpm_header.proofs.Each.{first_none}

-- a number is told by its four bytes
four_in_front : (m : ℕ) (xs : List ℕ) → from_be_bytes w32 (take (suc (suc (suc (suc m)))) xs) ≡ from_be_bytes w32 xs
four_in_front m [] = refl
four_in_front m (a ∷ []) = refl
four_in_front m (a ∷ b ∷ []) = refl
four_in_front m (a ∷ b ∷ c ∷ []) = refl
four_in_front m (a ∷ b ∷ c ∷ d ∷ xs) = refl

pub number_in_front : (n at : ℕ) (bytes : List ℕ) → at + 4 ≤ n → number_at w32 (take n bytes) at ≡ number_at w32 bytes at
unfolding number_at
number_in_front n at bytes within =
    let size : at + suc (suc (suc (suc (n - (at + 4))))) ≡ n = omega arith in
    rw (← size, drop-take) (four_in_front (n - (at + 4)) (drop at bytes))

pub is_cut : (il dl n : ℕ) (bytes : List ℕ) → il ≡ number_at w32 bytes 0 → dl ≡ number_at w32 bytes 4 → n ≡ 8 + 16 * il + dl → n ≤ length bytes → il ≤ 65535
    → dl ≤ 67108864 → IsCutAsSaid il (take n bytes)
is_cut il dl n bytes il_is dl_is n_is within few small =
    let second : number_at w32 (take n bytes) 4 ≡ number_at w32 bytes 4 = number_in_front n 4 bytes (omega arith) in
    record {
      front = number_in_front n 0 bytes (omega arith) ∙ sym il_is;
      whole = length-take-le n bytes within ∙ (omega arith);
      few = few;
      small = omega arith;
    }

-- read again, a header's own bytes give the same header
pub again : (il : ℕ) (blob : List ℕ) → IsBlobSound il blob → header blob ≡ Ok (record { blob = blob; entries = entries il blob })
unfolding header header_of
again il blob sound =
    let long : nat_lt (length blob) 8 ≡ false = le-ltb (length blob) 8 (omega arith) in
    let few : nat_lt 65535 (number_at w32 blob 0) ≡ false = le-ltb 65535 (number_at w32 blob 0) (omega arith) in
    let small : nat_lt 67108864 (number_at w32 blob 4) ≡ false = le-ltb 67108864 (number_at w32 blob 4) sound.cut.small in
    let whole : nat_lt (length blob) (8 + 16 * number_at w32 blob 0 + number_at w32 blob 4) ≡ false =
    le-ltb (length blob) (8 + 16 * number_at w32 blob 0 + number_at w32 blob 4) (omega arith) in
    let own : take (8 + 16 * number_at w32 blob 0 + number_at w32 blob 4) blob ≡ blob =
    take_all (8 + 16 * number_at w32 blob 0 + number_at w32 blob 4) blob (omega arith) in
    rw (long, few, small, whole, own, sound.cut.front, first_none il (fault_at il blob) sound.faultless) refl
