-- What stands where after a write.
use Rattle.std.proofs.Common.{◌≡◌, ◌⊎◌, inl, inr, ℕ, ◌+◌, ◌-◌, ◌<◌, ◌≤◌, max, ◌++◌, take, drop, length, replicate, sym}
use Rattle.std.proofs.Common.{◌∙◌, ap, arith, length-append, length-drop}
use Rattle.std.proofs.lemmas.List.{length-take, length-replicate, get_or_append_left, get_or-append_right, get_or-take}
use Rattle.std.proofs.lemmas.List.{get_or-drop, get_or-replicate, get_or_past}
use Rattle.std.proofs.lemmas.Bool.{cases_lt}
use Rattle.rpm_outside.specs.Files.{Units, unit_at, blank, with_units}

module _ (at : ℕ) (units file : Units) where
  abbrev front : Units
  front = take at file ++ replicate (at - length file) blank

  length-front : length front ≡ at
  length-front = omega (
    arith,
    length-append (take at file) (replicate (at - length file) blank),
    length-take at file,
    length-replicate (at - length file) blank,
  )

  pub length-put : length (with_units at units file) ≡ max (length file) (at + length units)
  unfolding with_units
  length-put =
      omega (
        arith,
        length-append (front ++ units) (drop (at + length units) file),
        length-append front units,
        length-front,
        length-drop (at + length units) file,
      )

  at_front : (i : ℕ) → i < at → unit_at front i ≡ unit_at file i
  at_front i below = elim (cases_lt i (length file)) [
    | inl inside ↦ get_or_append_left (take at file) (replicate (at - length file) blank) blank i
        (omega (arith, length-take at file)) ∙ get_or-take
        at file i blank below
    | inr past ↦
        let short : length (take at file) ≡ length file = omega (arith, length-take at file) in
        get_or-append_right (take at file) (replicate (at - length file) blank) (length file) i blank short past
        ∙ get_or-replicate (at - length file) (i - length file) blank blank (omega arith)
        ∙ sym (get_or_past file i blank past)
  ]

  pub put_before : (i : ℕ) → i < at → unit_at (with_units at units file) i ≡ unit_at file i
  unfolding with_units
  put_before i below =
      get_or_append_left (front ++ units) (drop (at + length units) file) blank i
      (omega (arith, length-append front units, length-front))
      ∙ get_or_append_left front units blank i (omega (arith, length-front))
      ∙ at_front i below

  pub put_inside : (k : ℕ) → k < length units → unit_at (with_units at units file) (at + k) ≡ unit_at units k
  unfolding with_units
  put_inside k below =
      get_or_append_left (front ++ units) (drop (at + length units) file) blank (at + k)
      (omega (arith, length-append front units, length-front))
      ∙ get_or-append_right front units at (at + k) blank length-front (omega arith)
      ∙ ap (λ (i : ℕ). unit_at units i) (omega arith)

  pub put_after : (i : ℕ) → at + length units ≤ i → unit_at (with_units at units file) i ≡ unit_at file i
  unfolding with_units
  put_after i past =
      get_or-append_right (front ++ units) (drop (at + length units) file) (at + length units) i blank
      (omega (arith, length-append front units, length-front)) past
      ∙ get_or-drop (at + length units) file (i - (at + length units)) blank
      ∙ ap (λ (j : ℕ). unit_at file j) (omega arith)

  -- a unit is outside the range, or at one place in it
  pub put_cases : (i : ℕ) → (unit_at (with_units at units file) i ≡ unit_at file i)
      ⊎ ((k : ℕ) × (k < length units) × (i ≡ at + k)
      × (unit_at (with_units at units file) i ≡ unit_at units k))
  put_cases i = elim (cases_lt i at) [
    | inl below ↦ inl (put_before i below)
    | inr from ↦ elim (cases_lt i (at + length units)) [
      | inr past ↦ inl (put_after i past)
      | inl inside ↦
          let place : i ≡ at + (i - at) = omega arith in
          inr (
            i - at,
            omega arith,
            place,
            ap (λ (j : ℕ). unit_at (with_units at units file) j) place
                ∙ put_inside (i - at) (omega arith),
          )
    ]
  ]
