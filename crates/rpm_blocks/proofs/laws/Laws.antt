-- What callers use of a list with one more range, and with one less, and of a free range.
use Rattle.std.specs.Prelude.{◌≡◌, ◌≢◌, ℕ, suc, zero, ◌≤◌, ◌⊎◌, Bool, true, false, List, [], ◌∷◌, Contains, SomeIndex}
use Rattle.std.specs.Prelude.{nat_lt, ◌==◌, not, cond, if◌then◌else◌, refl}
use Rattle.std.proofs.Common.{inl, inr, arith, sym, ap, ◌∙◌}
use Rattle.std.proofs.lemmas.Bool.{cases_lt}
use Rattle.std.proofs.lemmas.List.{get_or_default}
use borrow.Author.Tests.{eqb-true, eqb-false}
use Rattle.rpm_blocks.specs.declared.Range.{Range}
use Rattle.rpm_blocks.specs.Blocks.{Has, IsFree, end_of_range, range_at, range, with_range, without}

behind : (y x : Range) (l : List Range) → Contains l x → Contains (y ∷ l) x
behind y x l h = (suc h.0, omega (arith, h.1), h.2)

-- the range that was added is there
pub with_range_here : (r : Range) (l : List Range) → Contains (with_range r l) r
with_range_here r [] = (0, omega arith, refl)
with_range_here r (s ∷ rest) =
    elim (nat_lt r.start s.start) as (λ b. Contains (if b then r ∷ s ∷ rest else s ∷ with_range r rest) r) [
      | true ↦ (0, omega arith, refl)
      | false ↦ behind s r (with_range r rest) (with_range_here r rest)
    ]

-- and so is each that was there
pub with_range_keeps : (r x : Range) (l : List Range) → Contains l x → Contains (with_range r l) x
with_range_keeps r x [] h = absurd (omega (arith, h.1))
with_range_keeps r x (s ∷ rest) h =
    elim (nat_lt r.start s.start) as (λ b. Contains (if b then r ∷ s ∷ rest else s ∷ with_range r rest) x) [
      | true ↦ behind r x (s ∷ rest) h
      | false ↦ kept (with_range_keeps r x rest) h
    ]
  where
    kept : (Contains rest x → Contains (with_range r rest) x) → Contains (s ∷ rest) x
        → Contains (s ∷ with_range r rest) x
    kept again (zero, lt, is) = (0, omega arith, is)
    kept again (suc i, lt, is) = behind s x (with_range r rest) (again (i, omega arith, is))

-- and no other
pub with_range_only : (r x : Range) (l : List Range) → Contains (with_range r l) x → (x ≡ r) ⊎ Contains l x
with_range_only r x [] (zero, lt, is) = inl (sym is)
with_range_only r x [] (suc i, lt, is) = absurd (omega arith)
with_range_only r x (s ∷ rest) h =
    let P : Bool → Type 0 = λ b. Contains (if b then r ∷ s ∷ rest else s ∷ with_range r rest) x → (x ≡ r)
    ⊎ Contains (s ∷ rest) x in
    let by_case : (b : Bool) → P b = λ b. elim b as P [ true ↦ first | false ↦ later (with_range_only r x rest) ] in
    by_case (nat_lt r.start s.start) h
  where
    first : Contains (r ∷ s ∷ rest) x → (x ≡ r) ⊎ Contains (s ∷ rest) x
    first (zero, lt, is) = inl (sym is)
    first (suc i, lt, is) = inr (i, omega arith, is)

    later : (Contains (with_range r rest) x → (x ≡ r) ⊎ Contains rest x) → Contains (s ∷ with_range r rest) x → (x ≡ r)
        ⊎ Contains (s ∷ rest) x
    later again (zero, lt, is) = inr (0, omega arith, is)
    later again (suc i, lt, is) = elim (again (i, omega arith, is)) [
      | inl new ↦ inl new
      | inr old ↦ inr (behind s x rest old)
    ]

-- a range that begins elsewhere stays when one is taken out
pub without_keeps : (start : ℕ) (x : Range) (l : List Range) → x.start ≢ start → Contains l x
    → Contains (without start l) x
without_keeps start x [] differs h = absurd (omega (arith, h.1))
without_keeps start x (s ∷ rest) differs h =
    let P : Bool → Type 0 = λ b. (s.start == start) ≡ b
    → Contains (cond (not b) (s ∷ without start rest) (without start rest)) x in
    let by_case : (b : Bool) → P b = λ b. elim b as P [
      | true ↦ λ same. gone (without_keeps start x rest differs) same h
      | false
          ↦ λ _. kept (without_keeps start x rest differs) h
    ] in
    by_case (s.start == start) refl
  where
    kept : (Contains rest x → Contains (without start rest) x) → Contains (s ∷ rest) x
        → Contains (s ∷ without start rest) x
    kept again (zero, lt, is) = (0, omega arith, is)
    kept again (suc i, lt, is) = behind s x (without start rest) (again (i, omega arith, is))

    gone : (Contains rest x → Contains (without start rest) x) → (s.start == start) ≡ true → Contains (s ∷ rest) x
        → Contains (without start rest) x
    gone again same (zero, lt, is) =
        absurd (differs (sym (ap (λ (y : Range). y.start) is) ∙ eqb-true s.start start same))
    gone again same (suc i, lt, is) = again (i, omega arith, is)

-- and no other does
pub without_only : (start : ℕ) (x : Range) (l : List Range) → Contains (without start l) x → (x.start ≢ start)
    × Contains l x
without_only start x [] h = absurd (omega (arith, h.1))
without_only start x (s ∷ rest) h =
    let P : Bool → Type 0 = λ b. (s.start == start) ≡ b
    → Contains (cond (not b) (s ∷ without start rest) (without start rest)) x → (x.start ≢ start)
    × Contains (s ∷ rest) x in
    let by_case : (b : Bool) → P b = λ b. elim b as P
    [ true ↦ λ _. gone (without_only start x rest) | false ↦ kept (without_only start x rest) ] in
    by_case (s.start == start) refl h
  where
    gone : (Contains (without start rest) x → (x.start ≢ start) × Contains rest x) → Contains (without start rest) x
        → (x.start ≢ start) × Contains (s ∷ rest) x
    gone again h = ((again h).0, behind s x rest (again h).1)

    kept : (Contains (without start rest) x → (x.start ≢ start) × Contains rest x) → (s.start == start) ≡ false
        → Contains (s ∷ without start rest) x
        → (x.start ≢ start) × Contains (s ∷ rest) x
    kept again differs (zero, lt, is) =
        (λ same. eqb-false s.start start differs (ap (λ (y : Range). y.start) is ∙ same), (0, omega arith, is))
    kept again differs (suc i, lt, is) = gone again (i, omega arith, is)

-- a free range lies below each of the list, or above it
pub apart_from_free : (l : List Range) (r x : Range) → IsFree l r → Contains l x → 1 ≤ r.count → 1 ≤ x.count
    → (end_of_range x ≤ r.start) ⊎ (end_of_range r ≤ x.start)
apart_from_free l r x free (i, lt, is) some_r some_x =
    let at : range_at l i ≡ x = get_or_default l i (range 0 0) x lt ∙ is in
    let shares : (b : ℕ) → Has r b → ¬ Has x b = λ b in_r in_x. free b in_r i lt (rw at in_x) in
    elim (cases_lt r.start (end_of_range x)) [
      | inr above ↦ inl above
      | inl reaches ↦ elim (cases_lt x.start (end_of_range r)) [
        | inr below ↦ inr below
        | inl meets ↦ elim (cases_lt x.start r.start) [
          | inl before ↦ absurd (shares r.start (record { from = omega arith; below = omega arith })
              (record { from = omega arith; below = reaches }))
          | inr behind ↦ absurd (shares x.start (record { from = behind; below = meets })
              (record { from = omega arith; below = omega arith }))
        ]
      ]
    ]

-- and a range that does is free
pub free_from_apart : (l : List Range) (r : Range)
    → ((x : Range) → Contains l x → (end_of_range x ≤ r.start) ⊎ (end_of_range r ≤ x.start)) → IsFree l r
free_from_apart l r apart b in_r i lt in_x =
    elim (apart (range_at l i) (i, lt, get_or_default l i (range_at l i) (range 0 0) lt)) [
      | inl above ↦ omega (arith, above, in_r.from, in_x.below)
      | inr below ↦ omega (arith, below, in_r.below, in_x.from)
    ]

-- a range of the list begins where it begins, as `remove` asks
pub begins_in : (l : List Range) (x : Range) → Contains l x → SomeIndex l (λ i. (range_at l i).start ≡ x.start)
begins_in l x (i, lt, is) = (i, lt, ap (λ (y : Range). y.start) (get_or_default l i (range 0 0) x lt ∙ is))
