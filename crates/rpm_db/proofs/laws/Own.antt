-- A header's own bytes, read again.
use Rattle.std.proofs.Common.{◌≡◌, ℕ, suc, ◌+◌, ◌-◌, ◌*◌, ◌≤◌, List, [], ◌∷◌, false, Option, Some, None, Ok, length}
use Rattle.std.proofs.Common.{take, drop, refl, sym, ap, ◌∙◌, inl, inr, arith}
use Rattle.std.specs.Prelude.{nat_lt}
use Rattle.std.specs.Int.{w32, from_be_bytes}
use Rattle.std.proofs.lemmas.Bool.{cases_Bool}
use Rattle.std.proofs.lemmas.Bool.Decides.{nat_tests}
use Rattle.std.proofs.lemmas.List.{length-take-le, drop-take, take_all}
use Rattle.rpm_header.specs.declared.form.HeaderFault.{HeaderFault}
use Rattle.rpm_header.specs.Bytes.{number_at}
use Rattle.rpm_header.specs.Header.{Header, header, header_of, max_entries, max_data}
use Rattle.rpm_header.specs.laws.Words.{unless}

passed : (o : Option HeaderFault) (x h : Header) → unless o x ≡ Ok h → x ≡ h
passed None x h is = cc
passed (Some fault) x h is = absurd cc

own_blob : (il n : ℕ) (bytes : List ℕ) (h : Header) → header_of il (take n bytes) ≡ Ok h → take n bytes ≡ h.blob
unfolding header_of
own_blob il n bytes h is = ap (λ (x : Header). x.blob) (passed _ _ h is)

-- a number is told by its four bytes
four_in_front : (m : ℕ) (xs : List ℕ) → from_be_bytes w32 (take (suc (suc (suc (suc m)))) xs) ≡ from_be_bytes w32 xs
four_in_front m [] = refl
four_in_front m (a ∷ []) = refl
four_in_front m (a ∷ b ∷ []) = refl
four_in_front m (a ∷ b ∷ c ∷ []) = refl
four_in_front m (a ∷ b ∷ c ∷ d ∷ xs) = refl

number_in_front : (n at : ℕ) (bytes : List ℕ) → at + 4 ≤ n → number_at w32 (take n bytes) at ≡ number_at w32 bytes at
unfolding number_at
number_in_front n at bytes within =
    let size : at + suc (suc (suc (suc (n - (at + 4))))) ≡ n = omega arith in
    rw (← size, drop-take) (four_in_front (n - (at + 4)) (drop at bytes))

whole_again : (il dl n : ℕ) (bytes : List ℕ) (h : Header) → il ≡ number_at w32 bytes 0 → dl ≡ number_at w32 bytes 4
    → n ≡ 8 + 16 * il + dl → n ≤ length bytes
    → nat_lt max_entries il ≡ false → nat_lt max_data dl ≡ false → header_of il (take n bytes) ≡ Ok h
    → header (take n bytes) ≡ Ok h
unfolding header
whole_again il dl n bytes h first second size within few small is =
    let own : length (take n bytes) ≡ n = length-take-le n bytes within in
    let il_again : number_at w32 (take n bytes) 0 ≡ il = number_in_front n 0 bytes (omega arith) ∙ sym first in
    let dl_again : number_at w32 (take n bytes) 4 ≡ dl = number_in_front n 4 bytes (omega arith) ∙ sym second in
    let long : nat_lt n 8 ≡ false = grind (arith, nat_tests) in
    let whole : nat_lt n (8 + 16 * il + dl) ≡ false = grind (arith, nat_tests) in
    let cut : take (8 + 16 * il + dl) (take n bytes)
    ≡ take n bytes = take_all (8 + 16 * il + dl) (take n bytes) (omega (arith, own)) in
    rw (il_again, dl_again, own, long, few, small, whole, cut) is

-- they are the same header again
pub header-own : (bytes : List ℕ) (h : Header) → header bytes ≡ Ok h → header h.blob ≡ Ok h
unfolding header
header-own bytes h is =
    let il = number_at w32 bytes 0 in
    let dl = number_at w32 bytes 4 in
    let n = 8 + 16 * il + dl in
    elim (cases_Bool (nat_lt (length bytes) 8)) [
      | inl short ↦ (let no = rw short at is in absurd cc)
      | inr long ↦ elim (cases_Bool (nat_lt max_entries il)) [
        | inl many ↦ (let no = rw (long, many) at is in absurd cc)
        | inr few ↦ elim (cases_Bool (nat_lt max_data dl)) [
          | inl much ↦ (let no = rw (long, few, much) at is in absurd cc)
          | inr small ↦ elim (cases_Bool (nat_lt (length bytes) n)) [
            | inl cut ↦ (let no = rw (long, few, small, cut) at is in absurd cc)
            | inr whole ↦
                (let le : n ≤ length bytes = grind (arith, nat_tests) in
                let read : header_of il (take n bytes) ≡ Ok h = rw (long, few, small, whole) at is in
                ap header (sym (own_blob il n bytes h read))
                ∙ whole_again il dl n bytes h refl refl refl le few small read)
          ]
        ]
      ]
    ]
