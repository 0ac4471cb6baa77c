-- How often a row is in a list.
use Rattle.std.proofs.Common.{◌≡◌, ℕ, ◌+◌, List, [], ◌∷◌, ◌++◌, Bool, true, false, cond, eqb, ◌&&◌, refl, sym, ap, ◌∙◌, arith, zero-add}
use Rattle.rpm_hindex.proofs.Vocabulary.{AddsHit, AsOften, bytes_eq, has_key, Hit, Row, row_of_hit, same_hit, same_row, times, times-append, times_hit}
use Rattle.rpm_hindex.proofs.Vocabulary.{times_none, times_one}
use Rattle.std.proofs.lemmas.List.Sums.{sum_by-append}
use Rattle.std.proofs.lemmas.Bool.{and_left}

pub times_hit_none : (h : Hit) → times_hit h [] ≡ 0
unfolding times_hit
times_hit_none h = refl

pub times_hit_push : (h : Hit) (hits : List Hit) (new : Hit) → times_hit h (hits ++ new ∷ []) ≡ times_hit h hits + cond (same_hit h new) 1 0
unfolding times_hit
times_hit_push h hits new = sum_by-append (λ (x : Hit). cond (same_hit h x) 1 0) hits (new ∷ []) ∙ ap (λ (n : ℕ). times_hit h hits + n)
    (zero-add (cond (same_hit h new) 1 0))

module _ (kind : ℕ) (key : List ℕ) (row : Row) where
  abbrev hit_of : Hit
  hit_of = record { number = row.number; place = row.place }

  -- a row is that of a hit where it has the kind and key, and its number and place
  split : (h : Hit) → same_row (row_of_hit kind key h) row ≡ (has_key kind key row && same_hit h hit_of)
  split h = elim (eqb kind row.kind) as (λ (b : Bool). (b && (bytes_eq key row.key && same_hit h hit_of))
      ≡ ((b && bytes_eq key row.key) && same_hit h hit_of)) [ true ↦ refl | false ↦ refl ]

  pub adds_none : has_key kind key row ≡ false → (hits : List Hit) → AddsHit kind key row hits hits
  adds_none other hits h =
      let is : times (row_of_hit kind key h) (row ∷ []) ≡ 0 =
      times_one (row_of_hit kind key h) row ∙ ap (λ (b : Bool). cond b 1 0) (split h ∙ and_left (has_key kind key row) (same_hit h hit_of) other) in
      omega arith

  pub adds_one : has_key kind key row ≡ true → (old new : List Hit) → new ≡ old ++ hit_of ∷ [] → AddsHit kind key row old new
  adds_one same old new e h =
      let is : times (row_of_hit kind key h) (row ∷ []) ≡ cond (same_hit h hit_of) 1 0 =
      times_one (row_of_hit kind key h) row ∙ ap (λ (b : Bool). cond b 1 0) (split h ∙ ap (λ (b : Bool). b && same_hit h hit_of) same) in
      ap (times_hit h) e ∙ times_hit_push h old hit_of ∙ ap (λ (n : ℕ). times_hit h old + n) (sym is)

pub often_more : (kind : ℕ) (key : List ℕ) (rows : List Row) (row : Row) (old new : List Hit) → AsOften kind key rows old → AddsHit kind key row old
    new → AsOften kind key (rows ++ row ∷ []) new
often_more kind key rows row old new often adds h =
    adds h ∙ ap (λ (n : ℕ). n + times (row_of_hit kind key h) (row ∷ [])) (often h) ∙ sym (times-append (row_of_hit kind key h) rows (row ∷ []))

pub often_none : (kind : ℕ) (key : List ℕ) → AsOften kind key [] []
often_none kind key h = times_hit_none h ∙ sym (times_none (row_of_hit kind key h))
