-- How often rows are in lists, and how many units their records have.
use Rattle.std.proofs.Common.{◌≡◌, ℕ, ◌+◌, ◌<◌, List, [], ◌∷◌, ◌++◌, length, true, cond, eqb, refl, sym, ap, ◌∙◌, arith}
use Rattle.std.proofs.Common.{zero-add, inl, inr}
use Rattle.std.specs.List.{sum_by}
use Rattle.std.specs.Str.{bytes_eq}
use Rattle.std.proofs.lemmas.Bool.{cases_Bool, cond-true, cond-false, and_from, and_parts, eqb-true, eq-eqb}
use Rattle.std.proofs.lemmas.List.Sums.{sum_by-append, sum_by-cons}
use Rattle.std.proofs.lemmas.Slice.Eq.{bytes_eq-Decides}
use Rattle.rpm_hindex.specs.Rows.{Row, times, same_row}
use Rattle.rpm_hindex.specs.Sizes.{live_of}
use Rattle.rpm_hindex.specs.laws.Parts.{record_units}

pub times-append : (r : Row) (xs ys : List Row) → times r (xs ++ ys) ≡ times r xs + times r ys
unfolding times
times-append r xs ys = sum_by-append (λ (x : Row). cond (same_row r x) 1 0) xs ys

pub times_none : (r : Row) → times r [] ≡ 0
unfolding times
times_none r = refl

pub times_one : (r s : Row) → times r (s ∷ []) ≡ cond (same_row r s) 1 0
unfolding times
times_one r s = zero-add (cond (same_row r s) 1 0)

pub live-append : (xs ys : List Row) → live_of (xs ++ ys) ≡ live_of xs + live_of ys
unfolding live_of
live-append xs ys = sum_by-append (λ (r : Row). record_units (length r.key)) xs ys

-- rows that count as the same are the same
pub same_is : (a b : Row) → same_row a b ≡ true → a ≡ b
same_is a b e =
    let p = and_parts (eqb a.kind b.kind) _ e in
    let q = and_parts (bytes_eq a.key b.key) _ p.1 in
    let s = and_parts (eqb a.number b.number) _ q.1 in
    let row : ℕ → List ℕ → ℕ → ℕ → Row = λ kind key number place.
    record { kind = kind; key = key; number = number; place = place } in
    ap (λ (k : ℕ). row k a.key a.number a.place) (eqb-true a.kind b.kind p.0)
    ∙ ap (λ (k : List ℕ). row b.kind k a.number a.place) ((bytes_eq-Decides a.key b.key).0 q.0)
    ∙ ap (λ (n : ℕ). row b.kind b.key n a.place) (eqb-true a.number b.number s.0)
    ∙ ap (λ (n : ℕ). row b.kind b.key b.number n) (eqb-true a.place b.place s.1)

pub same_self : (r : Row) → same_row r r ≡ true
same_self r = and_from _ _ (eq-eqb r.kind r.kind refl) (and_from _ _ ((bytes_eq-Decides r.key r.key).1 refl)
    (and_from _ _ (eq-eqb r.number r.number refl) (eq-eqb r.place r.place refl)))

pub times-cons : (q r : Row) (rows : List Row) → times q (r ∷ rows) ≡ times q (r ∷ []) + times q rows
times-cons q r rows = times-append q (r ∷ []) rows

pub once : (r : Row) → times r (r ∷ []) ≡ 1
once r = times_one r r ∙ cond-true (same_row r r) 1 0 (same_self r)

module _ (f : Row → ℕ) where
  -- the list without a row that is there
  pub without : (r : Row) (rows : List Row) → 0 < times r rows → (rest : List Row)
      × ((q : Row) → times q rows ≡ times q (r ∷ []) + times q rest)
      × (sum_by f rows ≡ f r + sum_by f rest)
  without r [] some = absurd (omega (arith, some, times_none r))
  without r (x ∷ xs) some = elim (cases_Bool (same_row r x)) [
    | inl same ↦
        let is : r ≡ x = same_is r x same in (
          xs,
          λ q. times-cons q x xs ∙ ap (λ (y : Row). times q (y ∷ []) + times q xs) (sym is),
          sum_by-cons f x xs
              ∙ ap (λ (y : Row). f y + sum_by f xs) (sym is),
        )
    | inr other ↦
        let none : times r (x ∷ []) ≡ 0 = times_one r x ∙ cond-false (same_row r x) 1 0 other in
        let t = without r xs (omega (arith, some, times-cons r x xs, none)) in (
          x ∷ t.0,
          λ q. omega (arith, times-cons q x xs, t.1 q, times-cons q x t.0),
          omega (arith, sum_by-cons f x xs, t.2, sum_by-cons f x t.0),
        )
  ]
