-- Runs of held units.
use Rattle.std.proofs.Common.{◌≡◌, inl, inr, ℕ, ◌+◌, ◌-◌, ◌<◌, ◌≤◌, [], ◌∷◌, ◌++◌, length, refl, sym, ap, ◌∙◌, arith, length-append}
use Rattle.std.specs.Prelude.{unwrap_or}
use Rattle.std.proofs.lemmas.List.{get_or_past, get_or_append_left, get_or-append_right}
use Rattle.std.proofs.lemmas.List.FromFn.{length-map-range_with_len, get_or-map-range_with_len}
use Rattle.std.proofs.lemmas.Bool.{cases_lt}
use Rattle.rpm_group.proofs.Vocabulary.{blank, File, file_of, file_of-with, Files, held_at, with_units, put_some, put_some_append, put_some_is, same_units, Table}
use Rattle.rpm_group.proofs.Vocabulary.{unit_at, Units, units_held, with_file, with_file-with_file}

pub length-units_held : (table : Table) (from n : ℕ) → length (units_held table from n) ≡ n
unfolding units_held
length-units_held table from n = length-map-range_with_len (λ i. unwrap_or (held_at table i) blank) from n

pub unit_at-units_held : (table : Table) (from n k : ℕ) → k < n → unit_at (units_held table from n) k ≡ unwrap_or (held_at table (from + k)) blank
unfolding units_held
unit_at-units_held table from n k below = get_or-map-range_with_len (λ i. unwrap_or (held_at table i) blank) from n k (from + k) blank below refl

pub units_held-append : (table : Table) (from a b next : ℕ) → next ≡ from + a → units_held table from (a + b) ≡ units_held table from a ++ units_held
    table next b
units_held-append table from a b next is = same_units (units_held table from (a + b)) (units_held table from a ++ units_held table next b)
    (omega (
      arith,
      length-units_held table from (a + b),
      length-append (units_held table from a) (units_held table next b),
      length-units_held table
          from a,
      length-units_held table next b,
    ))
    (λ k. elim (cases_lt k a) [
      | inl first ↦
          unit_at-units_held table from (a + b) k (omega arith)
          ∙ sym (unit_at-units_held table from a k first)
          ∙ sym (get_or_append_left (units_held table from a) (units_held table next b) blank k (omega (arith, length-units_held table from a)))
      | inr second ↦ elim (cases_lt k (a + b)) [
        | inl inside ↦
            let j : ℕ = k - a in
            let place : from + k ≡ next + j = omega (arith, is) in
            unit_at-units_held table from (a + b) k inside
            ∙ ap (λ (i : ℕ). unwrap_or (held_at table i) blank) place
            ∙ sym (unit_at-units_held table next b j (omega arith))
            ∙ sym (get_or-append_right (units_held table from a) (units_held table next b) a k blank (length-units_held table from a) second)
        | inr past ↦
            get_or_past (units_held table from (a + b)) k blank (omega (arith, length-units_held table from (a + b)))
            ∙ sym (get_or_past (units_held table from a ++ units_held table next b) k blank
            (omega (
              arith,
              length-append (units_held table from a) (units_held table next b),
              length-units_held table from a,
              length-units_held
                  table next b,
            )))
      ]
    ])

-- one piece more of a run
module _ (table : Table) (file : File) (at from done stop n place : ℕ) (first mid new : Files) (low : from ≤ done) (some : done < stop)
    (is_n : n ≡ stop - done) (is_place : place ≡ at + (done - from)) where
  pub run_more : mid ≡ with_file file (put_some at (units_held table from (done - from)) (file_of file first)) first
      → new ≡ with_file file (with_units place (units_held table done n) (file_of file mid)) mid
      → new ≡ with_file file (put_some at (units_held table from (stop - from)) (file_of file first)) first
  run_more so_far next =
      let whole : (done - from) + n ≡ stop - from = omega arith in
      let from_here : done ≡ from + (done - from) = omega arith in
      next
      ∙ ap (λ (f : Files). with_file file (with_units place piece (file_of file f)) f) so_far
      ∙ with_file-with_file file (with_units place piece (file_of file (with_file file here first))) here first
      ∙ ap (λ (us : Units). with_file file (with_units place piece us) first) (file_of-with file here first)
      ∙ ap (λ (us : Units). with_file file us first)
      (put_some_append at place front piece (file_of file first) (omega (arith, length-units_held table done n))
      (omega (arith, length-units_held table from (done - from))))
      ∙ ap (λ (us : Units). with_file file (put_some at us (file_of file first)) first) (sym (units_held-append table from (done - from) n done from_here))
      ∙ ap (λ (k : ℕ). with_file file (put_some at (units_held table from k) (file_of file first)) first) whole
    where
      front : Units
      front = units_held table from (done - from)

      piece : Units
      piece = units_held table done n

      here : Units
      here = put_some at front (file_of file first)

pub run_none : (table : Table) (file : File) (at from n : ℕ) (files : Files) → n ≡ 0 → files ≡ with_file file (file_of file files) files
    → files ≡ with_file file (put_some at (units_held table from n) (file_of file files)) files
run_none table file at from n files is itself = itself ∙ ap (λ (us : Units). with_file file (put_some at us (file_of file files)) files)
    (sym (nothing (units_held table from n) (length-units_held table from n ∙ is)))
  where
    nothing : (us : Units) → length us ≡ 0 → us ≡ []
    nothing [] e = refl
    nothing (u ∷ us) e = absurd (omega (arith, e))

pub run_all : (table : Table) (file : File) (at from n : ℕ) (first new : Files) → 0 < n
    → new ≡ with_file file (put_some at (units_held table from n) (file_of file first)) first
    → new ≡ with_file file (with_units at (units_held table from n) (file_of file first)) first
run_all table file at from n first new some is = is
    ∙ ap (λ (us : Units). with_file file us first)
    (put_some_is at (units_held table from n) (file_of file first) (omega (arith, length-units_held table from n)))
