-- The third number of a region's trailer, as a division tests it.
use Rattle.std.proofs.Common.{◌≡◌, ℕ, zero, suc, ◌+◌, ◌-◌, ◌*◌, ◌/◌, ◌%◌, ◌^◌, ◌≤◌, ◌<◌, Bool, length, true, false, eqb, leb, arith, refl, sym, inl, inr, eq-eqb, ne_eqb}
use Rattle.std.proofs.lemmas.Bool.Decides.{leb_tells}
use Rattle.std.specs.Prelude.{◌==◌}
use Rattle.rpm_header.proofs.Vocabulary.{counts_back, list_any, range_with_len}
use Rattle.std.proofs.lemmas.List.FromFn.{length-range_with_len, get_or-range_with_len}
use Rattle.std.proofs.lemmas.List.Folds.{list_any_at}

any_in_range : (p : ℕ → Bool) (a n i : ℕ) → a ≤ i → i < a + n → p i ≡ true → list_any p (range_with_len a n) ≡ true
any_in_range p a n i from below holds =
    let place : a + (i - a) ≡ i = omega arith in
    let within : i - a < length (range_with_len a n) = omega (arith, length-range_with_len a n) in
    list_any_at p (range_with_len a n) (i - a) 0 within (rw (get_or-range_with_len a n (i - a) 0 (omega arith), place) holds)

none_in_range : (p : ℕ → Bool) (a n : ℕ) → ((i : ℕ) → a ≤ i → i < a + n → p i ≡ false) → list_any p (range_with_len a n) ≡ false
none_in_range p a zero none = refl
none_in_range p a (suc n) none =
    rw (none a (omega arith) (omega arith), none_in_range p (a + 1) n (λ i from below. none i (omega arith) (omega arith))) refl

pub counts : (il n r : ℕ) → n + 16 * r ≡ 2 ^ 32 → 1 ≤ r → r ≤ il → counts_back il n ≡ true
counts il n r is positive within = any_in_range (λ k. n + 16 * k == 2 ^ 32) 1 il r positive (omega arith) (eq-eqb (n + 16 * r) (2 ^ 32) is)

counts_not : (il n : ℕ) → ((r : ℕ) → 1 ≤ r → r ≤ il → n + 16 * r ≡ 2 ^ 32 → ⊥) → counts_back il n ≡ false
counts_not il n none = none_in_range (λ k. n + 16 * k == 2 ^ 32) 1 il (λ r positive within. ne_eqb (n + 16 * r) (2 ^ 32) (none r positive (omega arith)))

-- the code's two tests of how far the number is below 2 ^ 32
pub counted : (il n below : ℕ) → n + below ≡ 2 ^ 32 → 0 < below → below % 16 ≡ 0 → leb (below / 16) il ≡ counts_back il n
counted il n below is positive whole =
    elim (leb_tells (below / 16) il) [
      | inl test ↦ (let within : below / 16 ≤ il = test.1 in
          rw test.0 (sym (counts il n (below / 16) (omega arith) (omega arith) within)))
      | inr test ↦ (let past : il < below / 16 = test.1 in
          rw test.0 (sym (counts_not il n (λ r _ within e. absurd (omega arith)))))
    ]

pub not_counted : (il n below : ℕ) → n + below ≡ 2 ^ 32 → (below % 16 ≡ 0 → ⊥) → eqb (below % 16) 0 ≡ counts_back il n
not_counted il n below is odd =
    rw (ne_eqb (below % 16) 0 odd) (sym (counts_not il n (λ r _ _ e. odd (omega arith))))
