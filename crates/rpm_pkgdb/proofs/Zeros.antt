-- Zeros that are written.
use Rattle.std.proofs.Common.{◌≡◌, ℕ, ◌+◌, ◌-◌, ◌*◌, ◌/◌, ◌<◌, ◌≤◌, inl, inr, List, length, take, drop, replicate, sym, ap, ◌∙◌, arith, length-drop}
use Rattle.std.proofs.lemmas.List.{same_lists, get_or-take, get_or-drop, get_or-replicate, length-take, length-replicate}
use Rattle.std.proofs.lemmas.Bool.{cases_lt}
use Rattle.rpm_pkgdb.proofs.Vocabulary.{blank, length-cut_up, with_units, put_before, put_inside, unit_at, unit_at-cut_up, Units, units_of}

abbrev pub zeros : ℕ → List ℕ
zeros n = replicate n 0

zero_unit : (m n k : ℕ) → 16 * k + 16 ≤ m → m ≤ n → take 16 (drop (16 * k) (take m (zeros n))) ≡ blank
unfolding blank
zero_unit m n k inside within =
    let bytes = take m (zeros n) in
    let long : length bytes ≡ m = omega (arith, length-take m (zeros n), length-replicate {A = ℕ} n 0) in
    same_lists (take 16 (drop (16 * k) bytes)) (zeros 16) (omega (arith, length-take 16 (drop (16 * k) bytes), length-drop (16 * k) bytes)) (λ i d below.
    let lt : i < 16 = omega (arith, length-take 16 (drop (16 * k) bytes)) in
    get_or-take 16 (drop (16 * k) bytes) i d lt ∙ get_or-drop (16 * k) bytes i d ∙ get_or-take m (zeros n) (16 * k + i) d (omega arith)
    ∙ get_or-replicate n (16 * k + i) 0 d (omega arith)
    ∙ sym (get_or-replicate 16 i 0 d lt))

-- units of zeros more
pub zeros_more : (some n at from : ℕ) (old new : Units) → 16 * some ≤ n → new ≡ with_units at (units_of (take (16 * some) (zeros n))) old
    → ((i : ℕ) → from ≤ i → i < at → unit_at old i ≡ blank)
    → (i : ℕ) → from ≤ i → i < at + some → unit_at new i ≡ blank
zeros_more some n at from old new fits is before i low high =
    let bytes = take (16 * some) (zeros n) in
    let long : length bytes ≡ 16 * some = omega (arith, length-take (16 * some) (zeros n), length-replicate {A = ℕ} n 0) in
    let count : length bytes / 16 ≡ some = omega arith in
    let units : length (units_of bytes) ≡ some = length-cut_up (length bytes / 16) bytes ∙ count in
    ap (λ (u : Units). unit_at u i) is ∙ elim (cases_lt i at) [
      | inl below ↦ put_before at (units_of bytes) old i below ∙ before i low below
      | inr past ↦
          ap (unit_at (with_units at (units_of bytes) old)) (omega arith)
          ∙ put_inside at (units_of bytes) old (i - at) (omega arith)
          ∙ unit_at-cut_up (length bytes / 16) bytes (i - at) (omega arith)
          ∙ zero_unit (16 * some) n (i - at) (omega arith) fits
    ]
