-- A write of which only some units were done is a write of mixed units.
use Rattle.std.proofs.Common.{◌≡◌, inl, inr, ℕ, ◌+◌, ◌-◌, Bool, true, false, if◌then◌else◌, List, map, length, refl, sym, ◌∙◌, ap, arith}
use Rattle.std.proofs.lemmas.List.{get_or_past}
use Rattle.std.proofs.lemmas.List.FromFn.{length-map-range_with_len, get_or-map-range_with_len}
use Rattle.std.proofs.lemmas.Bool.{cases_lt}
use Rattle.rpm_outside.proofs.Vocabulary.{blank, length-put, mixed_unit, with_units, put_after, put_before, put_inside, range_with_len, same_units, takes_new}
use Rattle.rpm_outside.proofs.Vocabulary.{unit_at, Units}

module _ (seed at : ℕ) (units file : Units) where
  abbrev new : Units
  new = with_units at units file

  abbrev unit : ℕ → List ℕ
  unit = mixed_unit seed file new

  abbrev pub mixed_units : ℕ → Units
  mixed_units n = map unit (range_with_len at n)

  abbrev whole : Units
  whole = map unit (range_with_len 0 (length new))

  same_choice : (b : Bool) (x y : List ℕ) → x ≡ y → y ≡ (if b then x else y)
  same_choice true x y is = sym is
  same_choice false x y is = refl

  outside : (i : ℕ) → unit_at new i ≡ unit_at file i → unit_at file i ≡ unit_at whole i
  outside i same = elim (cases_lt i (length new)) [
    | inl inside ↦
        same_choice (takes_new seed i) (unit_at new i) (unit_at file i) same ∙ sym (get_or-map-range_with_len unit 0 (length new) i i blank inside
        (omega arith))
    | inr past ↦
        get_or_past file i blank (omega (arith, length-put at units file))
        ∙ sym (get_or_past whole i blank (omega (arith, length-map-range_with_len unit 0 (length new))))
  ]

  each : (i : ℕ) → unit_at (with_units at (mixed_units (length units)) file) i ≡ unit_at whole i
  each i = elim (cases_lt i at) [
    | inl below ↦ put_before at (mixed_units (length units)) file i below ∙ outside i (put_before at units file i below)
    | inr from ↦ elim (cases_lt i (at + length units)) [
      | inl inside ↦
          let k : ℕ = i - at in
          let place : i ≡ at + k = omega arith in
          ap (λ (j : ℕ). unit_at (with_units at (mixed_units (length units)) file) j) place
          ∙ put_inside at (mixed_units (length units)) file k (omega (arith, length-map-range_with_len unit at (length units)))
          ∙ get_or-map-range_with_len unit at (length units) k i blank (omega arith) (sym place)
          ∙ sym (get_or-map-range_with_len unit 0 (length new) i i blank (omega (arith, length-put at units file)) (omega arith))
      | inr past ↦
          put_after at (mixed_units (length units)) file i (omega (arith, length-map-range_with_len unit at (length units)))
          ∙ outside i (put_after at units file i past)
    ]
  ]

  pub mixed_whole : with_units at (mixed_units (length units)) file ≡ whole
  mixed_whole =
      same_units (with_units at (mixed_units (length units)) file) whole
      (omega (
        arith,
        length-put at (mixed_units (length units)) file,
        length-put at units file,
        length-map-range_with_len unit at (length units),
        length-map-range_with_len unit 0 (length new),
      ))
      each
