-- Units that change and records after them, in either order.
use Rattle.std.proofs.Common.{◌≡◌, ℕ, suc, ◌+◌, ◌-◌, ◌<◌, ◌≤◌, List, [], ◌∷◌, length, eqb, refl, sym, ap, ◌∙◌, arith, inl, inr}
use Rattle.std.proofs.lemmas.List.{ext_get_or}
use Rattle.std.proofs.lemmas.Bool.{cases_Bool, cases_lt, cond-true, cond-false}
use Rattle.rpm_hindex.proofs.Vocabulary.{after_tail, after_units, blank, length-put, Patch, with_units, put_after, put_before, put_inside, unit_at, Units, units_of}
use Rattle.rpm_hindex.proofs.Patched.{Within}

module _ (at used : ℕ) (w : List ℕ) (vs file : Units) (below : at < used) (le : used ≤ length file) where
  abbrev first : Units
  first = with_units at (w ∷ []) (with_units used vs file)

  abbrev last : Units
  last = with_units used vs (with_units at (w ∷ []) file)

  at_unit : unit_at first at ≡ unit_at last at
  at_unit =
      let here : (f : Units) → unit_at (with_units at (w ∷ []) f) at ≡ w =
      λ f. ap (λ (i : ℕ). unit_at (with_units at (w ∷ []) f) i) (omega arith) ∙ put_inside at (w ∷ []) f 0 (omega arith) in
      here (with_units used vs file) ∙ sym (put_before used vs (with_units at (w ∷ []) file) at below ∙ here file)

  under : (i : ℕ) → i < at → unit_at first i ≡ unit_at last i
  under i lt =
      put_before at (w ∷ []) (with_units used vs file) i lt ∙ put_before used vs file i (omega (arith, lt, below))
      ∙ sym (put_before used vs (with_units at (w ∷ []) file) i (omega (arith, lt, below)) ∙ put_before at (w ∷ []) file i lt)

  over : (i : ℕ) → at + 1 ≤ i → unit_at first i ≡ unit_at last i
  over i ge =
      let left : unit_at first i ≡ unit_at (with_units used vs file) i = put_after at (w ∷ []) (with_units used vs file) i ge in
      elim (cases_lt i used) [
        | inl lt ↦
            left ∙ put_before used vs file i lt
            ∙ sym (put_before used vs (with_units at (w ∷ []) file) i lt ∙ put_after at (w ∷ []) file i ge)
        | inr from ↦ elim (cases_lt i (used + length vs)) [
          | inl inside ↦
              let place : i ≡ used + (i - used) = omega (arith, from) in
              let here : (f : Units) → unit_at (with_units used vs f) i ≡ unit_at vs (i - used) =
              λ f. ap (λ (j : ℕ). unit_at (with_units used vs f) j) place ∙ put_inside used vs f (i - used) (omega (arith, from, inside)) in
              left ∙ here file ∙ sym (here (with_units at (w ∷ []) file))
          | inr past ↦
              left ∙ put_after used vs file i past
              ∙ sym (put_after used vs (with_units at (w ∷ []) file) i past ∙ put_after at (w ∷ []) file i ge)
        ]
      ]

  pub put_swap : first ≡ last
  put_swap =
      ext_get_or blank first last (omega (
        arith,
        below,
        le,
        length-put at (w ∷ []) (with_units used vs file),
        length-put used vs file,
        length-put used vs (with_units at (w ∷ []) file),
        length-put at (w ∷ []) file,
      )) (λ i lt. elim (cases_lt i at) [
        | inl under_it ↦ under i under_it
        | inr from ↦ elim (cases_lt at i) [
          | inl over_it ↦ over i (omega (arith, over_it))
          | inr equal ↦
              let same : at ≡ i = omega (arith, from, equal) in
              ap (λ (j : ℕ). unit_at first j) (sym same) ∙ at_unit ∙ ap (λ (j : ℕ). unit_at last j) same
        ]
      ])

tail_swap : (used : ℕ) (tail : List ℕ) (p : Patch) (file : Units) → p.unit < used → used ≤ length file → with_units p.unit (p.words ∷ [])
    (after_tail used tail file) ≡ after_tail used tail (with_units p.unit (p.words ∷ []) file)
tail_swap used tail p file below le = elim (cases_Bool (eqb (length tail) 0)) [
  | inl none ↦
      ap (λ (f : Units). with_units p.unit (p.words ∷ []) f) (cond-true (eqb (length tail) 0) file (with_units used (units_of tail) file) none)
      ∙ sym (cond-true (eqb (length tail) 0) (with_units p.unit (p.words ∷ []) file)
      (with_units used (units_of tail) (with_units p.unit (p.words ∷ []) file)) none)
  | inr some ↦
      ap (λ (f : Units). with_units p.unit (p.words ∷ []) f) (cond-false (eqb (length tail) 0) file (with_units used (units_of tail) file) some)
      ∙ put_swap p.unit used p.words (units_of tail) file below le
      ∙ sym (cond-false (eqb (length tail) 0) (with_units p.unit (p.words ∷ []) file)
      (with_units used (units_of tail) (with_units p.unit (p.words ∷ []) file)) some)
]

-- the records may be written before the units
pub units_swap : (used : ℕ) (tail : List ℕ) (ps : List Patch) (file : Units) → Within used ps → used ≤ length file → after_units ps
    (after_tail used tail file) ≡ after_tail used tail (after_units ps file)
units_swap used tail [] file each le = refl
units_swap used tail (p ∷ ps) file each le =
    ap (λ (f : Units). after_units ps f) (tail_swap used tail p file ((each 0 (omega arith)).1) le)
    ∙ units_swap used tail ps (with_units p.unit (p.words ∷ []) file) (λ k lt. each (suc k) (omega arith))
    (omega (arith, le, length-put p.unit (p.words ∷ []) file))
