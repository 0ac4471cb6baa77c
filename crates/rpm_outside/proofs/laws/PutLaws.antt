-- Two files are one where their units are, and a write in two parts.
use Rattle.std.proofs.Common.{◌≡◌, inl, inr, ℕ, suc, ◌+◌, ◌-◌, ◌<◌, List, [], ◌∷◌, length, sym, ◌∙◌, ap, arith}
use Rattle.std.proofs.lemmas.List.{same_lists, get_or_default}
use Rattle.std.proofs.lemmas.Bool.{cases_lt, cases_order}
use Rattle.rpm_outside.specs.Files.{Units, unit_at, blank, with_units}
use Rattle.rpm_outside.specs.laws.Puts.{length-put, put_before, put_inside, put_after}

pub same_units : (a b : Units) → length a ≡ length b → ((i : ℕ) → unit_at a i ≡ unit_at b i) → a ≡ b
same_units a b long same = same_lists a b long
    (λ k d below. get_or_default a k d blank below ∙ same k ∙ sym (get_or_default b k d blank (omega arith)))

module _ (at : ℕ) (unit : List ℕ) (units file : Units) (some : 0 < length units) where
  abbrev one_unit : Units
  one_unit = with_units at (unit ∷ []) file

  at_each : (i : ℕ) → unit_at (with_units (at + 1) units one_unit) i ≡ unit_at (with_units at (unit ∷ units) file) i
  at_each i = elim (cases_order i at) [
    | inl here ↦
        ap (λ (j : ℕ). unit_at (with_units (at + 1) units one_unit) j) here
        ∙ put_before (at + 1) units one_unit at (omega arith)
        ∙ ap (λ (j : ℕ). unit_at one_unit j) (omega arith)
        ∙ put_inside at (unit ∷ []) file 0 (omega arith)
        ∙ sym (put_inside at (unit ∷ units) file 0 (omega arith))
        ∙ ap (λ (j : ℕ). unit_at (with_units at (unit ∷ units) file) j) (omega (arith, here))
    | inr other ↦ elim other [
      | inl below ↦ put_before (at + 1) units one_unit i (omega arith) ∙ put_before at (unit ∷ []) file i below
          ∙ sym (put_before at (unit ∷ units) file i below)
      | inr above ↦ elim (cases_lt i (at + 1 + length units)) [
        | inl inside ↦
            let k = i - (at + 1) in
            ap (λ (j : ℕ). unit_at (with_units (at + 1) units one_unit) j) (omega arith)
            ∙ put_inside (at + 1) units one_unit k (omega arith)
            ∙ sym (put_inside at (unit ∷ units) file (suc k) (omega arith))
            ∙ ap (λ (j : ℕ). unit_at (with_units at (unit ∷ units) file) j) (omega arith)
        | inr past ↦
            put_after (at + 1) units one_unit i past ∙ put_after at (unit ∷ []) file i (omega arith)
            ∙ sym (put_after at (unit ∷ units) file i (omega arith))
      ]
    ]
  ]

  pub put_split : with_units (at + 1) units one_unit ≡ with_units at (unit ∷ units) file
  put_split =
      same_units (with_units (at + 1) units one_unit) (with_units at (unit ∷ units) file)
      (omega (
        arith,
        length-put (at + 1) units one_unit,
        length-put at (unit ∷ []) file,
        length-put at
            (unit ∷ units) file,
      ))
      at_each
