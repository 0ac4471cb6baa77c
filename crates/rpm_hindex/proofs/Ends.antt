-- A write in two parts, the later part first.
use Rattle.std.proofs.Common.{◌≡◌, ℕ, ◌+◌, ◌-◌, ◌/◌, ◌%◌, ◌≤◌, List, ◌++◌, take, drop, length, refl, sym, ap, ◌∙◌, arith, inl, inr, length-append, length-drop, take-append-drop}
use Rattle.std.proofs.lemmas.List.{get_or_append_left, get_or-append_right, length-take}
use Rattle.std.proofs.lemmas.Bool.{cases_lt}
use Rattle.rpm_hindex.proofs.Made.{cut_up-append}
use Rattle.rpm_hindex.proofs.Vocabulary.{blank, cut_up, length-cut_up, length-put, put_after, put_before, put_inside, same_units, unit_at, Units, units_of, with_units}

module _ (at : ℕ) (us vs file : Units) where
  each : (i : ℕ) → unit_at (with_units at us (with_units (at + length us) vs file)) i ≡ unit_at (with_units at (us ++ vs) file) i
  each i = elim (cases_lt i at) [
    | inl below ↦ put_before at us (with_units (at + length us) vs file) i below ∙ put_before (at + length us) vs file i (omega arith)
        ∙ sym (put_before at (us ++ vs) file i below)
    | inr from ↦ elim (cases_lt i (at + length us)) [
      | inl first ↦
          let k : ℕ = i - at in
          let place : i ≡ at + k = omega arith in
          ap (λ (j : ℕ). unit_at (with_units at us (with_units (at + length us) vs file)) j) place
          ∙ put_inside at us (with_units (at + length us) vs file) k (omega arith)
          ∙ sym (get_or_append_left us vs blank k (omega arith))
          ∙ sym (put_inside at (us ++ vs) file k (omega (arith, length-append us vs)))
          ∙ ap (λ (j : ℕ). unit_at (with_units at (us ++ vs) file) j) (sym place)
      | inr second ↦ elim (cases_lt i (at + length us + length vs)) [
        | inl inside ↦
            let k : ℕ = i - (at + length us) in
            let place : i ≡ at + length us + k = omega arith in
            let place2 : i ≡ at + (length us + k) = omega arith in
            let back : length us + k - length us ≡ k = omega arith in
            put_after at us (with_units (at + length us) vs file) i second
            ∙ ap (λ (j : ℕ). unit_at (with_units (at + length us) vs file) j) place
            ∙ put_inside (at + length us) vs file k (omega arith)
            ∙ ap (λ (j : ℕ). unit_at vs j) (sym back)
            ∙ sym (get_or-append_right us vs (length us) (length us + k) blank refl (omega arith))
            ∙ sym (put_inside at (us ++ vs) file (length us + k) (omega (arith, length-append us vs)))
            ∙ ap (λ (j : ℕ). unit_at (with_units at (us ++ vs) file) j) (sym place2)
        | inr past ↦
            put_after at us (with_units (at + length us) vs file) i second
            ∙ put_after (at + length us) vs file i past
            ∙ sym (put_after at (us ++ vs) file i (omega (arith, length-append us vs)))
      ]
    ]
  ]

  put_end_first : with_units at us (with_units (at + length us) vs file) ≡ with_units at (us ++ vs) file
  put_end_first = same_units (with_units at us (with_units (at + length us) vs file)) (with_units at (us ++ vs) file)
      (omega (
        arith,
        length-put at us (with_units (at + length us) vs file),
        length-put (at + length us) vs file,
        length-put at (us ++ vs) file,
        length-append us vs,
      )) each

-- bytes of which the end was written first
pub end_first : (keep at : ℕ) (bytes : List ℕ) (file : Units) → keep ≤ length bytes → keep % 16 ≡ 0 → length bytes % 16 ≡ 0 → at ≡ 1 + keep / 16
    → with_units 1 (units_of (take keep bytes)) (with_units at (units_of (drop keep bytes)) file) ≡ with_units 1 (units_of bytes) file
end_first keep at bytes file le fours whole is =
    let front = take keep bytes in
    let back = drop keep bytes in
    let size : length front ≡ keep = omega (arith, length-take keep bytes, le) in
    let units : length (units_of front) ≡ keep / 16 = omega (arith, length-cut_up (length front / 16) front, size) in
    let place : at ≡ 1 + length (units_of front) = omega (arith, is, units) in
    let count : length bytes / 16 ≡ length front / 16 + length back / 16 = omega (arith, size, length-drop keep bytes, le, fours, whole) in
    let parts : units_of bytes ≡ units_of front ++ units_of back =
    ap (λ (n : ℕ). cut_up n bytes) count
    ∙ ap (λ (bs : List ℕ). cut_up (length front / 16 + length back / 16) bs) (sym (take-append-drop keep bytes))
    ∙ cut_up-append (length front / 16) (length back / 16) front back (omega (arith, size, fours)) in
    ap (λ (k : ℕ). with_units 1 (units_of front) (with_units k (units_of back) file)) place
    ∙ put_end_first 1 (units_of front) (units_of back) file
    ∙ ap (λ (us : Units). with_units 1 us file) (sym parts)
