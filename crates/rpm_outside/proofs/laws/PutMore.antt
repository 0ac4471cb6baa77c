-- A write in several parts.
use Rattle.std.proofs.Common.{◌≡◌, inl, inr, ℕ, ◌+◌, ◌-◌, ◌<◌, [], ◌∷◌, ◌++◌, length, refl, sym, ◌∙◌, ap, arith}
use Rattle.std.proofs.Common.{length-append}
use Rattle.std.proofs.lemmas.List.{get_or_append_left, get_or-append_right}
use Rattle.std.proofs.lemmas.Bool.{cases_lt}
use Rattle.rpm_outside.specs.Files.{Units, unit_at, blank, with_units}
use Rattle.rpm_outside.specs.laws.Puts.{length-put, put_before, put_inside, put_after}
use Rattle.rpm_outside.proofs.laws.PutLaws.{same_units}

-- units are put as by `put`, but no units leave a file as it is
abbrev pub put_some : ℕ → Units → Units → Units
put_some at [] file = file
put_some at (unit ∷ units) file = with_units at (unit ∷ units) file

pub put_some_is : (at : ℕ) (units file : Units) → 0 < length units → put_some at units file ≡ with_units at units file
put_some_is at [] file some = absurd (omega arith)
put_some_is at (unit ∷ units) file some = refl

module _ (at : ℕ) (us vs file : Units) where
  both : Units
  both = with_units (at + length us) vs (with_units at us file)

  each : (i : ℕ) → unit_at (with_units (at + length us) vs (with_units at us file)) i
      ≡ unit_at (with_units at (us ++ vs) file) i
  each i = elim (cases_lt i at) [
    | inl below ↦ put_before (at + length us) vs (with_units at us file) i (omega arith) ∙ put_before at us file i below
        ∙ sym (put_before at (us ++ vs) file i below)
    | inr from ↦ elim (cases_lt i (at + length us)) [
      | inl first ↦
          let k : ℕ = i - at in
          let place : i ≡ at + k = omega arith in
          put_before (at + length us) vs (with_units at us file) i first
          ∙ ap (λ (j : ℕ). unit_at (with_units at us file) j) place
          ∙ put_inside at us file k (omega arith)
          ∙ sym (get_or_append_left us vs blank k (omega arith))
          ∙ sym (put_inside at (us ++ vs) file k (omega (arith, length-append us vs)))
          ∙ ap (λ (j : ℕ). unit_at (with_units at (us ++ vs) file) j) (sym place)
      | inr second ↦ elim (cases_lt i (at + length us + length vs)) [
        | inl inside ↦
            let k : ℕ = i - (at + length us) in
            let place : i ≡ at + length us + k = omega arith in
            let place2 : i ≡ at + (length us + k) = omega arith in
            let back : length us + k - length us ≡ k = omega arith in
            ap (λ (j : ℕ). unit_at (with_units (at + length us) vs (with_units at us file)) j) place
            ∙ put_inside (at + length us) vs (with_units at us file) k (omega arith)
            ∙ ap (λ (j : ℕ). unit_at vs j) (sym back)
            ∙ sym (get_or-append_right us vs (length us) (length us + k) blank refl (omega arith))
            ∙ sym (put_inside at (us ++ vs) file (length us + k) (omega (arith, length-append us vs)))
            ∙ ap (λ (j : ℕ). unit_at (with_units at (us ++ vs) file) j) (sym place2)
        | inr past ↦
            put_after (at + length us) vs (with_units at us file) i past
            ∙ put_after at us file i (omega arith)
            ∙ sym (put_after at (us ++ vs) file i (omega (arith, length-append us vs)))
      ]
    ]
  ]

  pub put_append : with_units (at + length us) vs (with_units at us file) ≡ with_units at (us ++ vs) file
  put_append = same_units (with_units (at + length us) vs (with_units at us file)) (with_units at (us ++ vs) file)
      (omega (
        arith,
        length-put (at + length us) vs (with_units at us file),
        length-put at us file,
        length-put at
            (us ++ vs) file,
        length-append us vs,
      )) each

pub put_some_append : (at next : ℕ) (us vs file : Units) → 0 < length vs → next ≡ at + length us
    → with_units next vs (put_some at us file) ≡ put_some at
    (us ++ vs) file
put_some_append at next [] vs file some is =
    ap (λ (j : ℕ). with_units j vs file) (is ∙ omega arith) ∙ sym (put_some_is at vs file some)
put_some_append at next (u ∷ us) vs file some is =
    ap (λ (j : ℕ). with_units j vs (with_units at (u ∷ us) file)) is ∙ put_append at (u ∷ us) vs file
