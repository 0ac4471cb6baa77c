-- Counting what is held, run by run.
use Rattle.std.proofs.Common.{◌≡◌, inl, inr, ℕ, zero, suc, ◌+◌, ◌-◌, ◌<◌, ◌≤◌, refl, sym, ap, ◌∙◌, arith, true, false}
use Rattle.std.specs.Prelude.{Bool, ◌&&◌, not}
use Rattle.std.proofs.lemmas.Bool.{cases_lt, and_left, and_right, and_from}
use Rattle.rpm_group.proofs.Vocabulary.{begins_run, count_below, is_held, log_units, Table}
use Rattle.rpm_group.proofs.Counts.{count_all, count_later, count_none, none_pass, step_one}

pub log_units_later : (table : Table) (from end : ℕ) → from ≤ end → log_units table from ≤ log_units table end
log_units_later table from end le =
    let n : ℕ = end - from in
    let is : from + n ≡ end = omega arith in
    omega (
      arith,
      count_later (begins_run table) from n,
      count_later (is_held table) from n,
      ap (λ (k : ℕ). count_below (begins_run table) k) is,
      ap
          (λ (k : ℕ). count_below (is_held table) k) is,
    )

begins_unheld : (table : Table) (i : ℕ) → is_held table i ≡ false → begins_run table i ≡ false
unfolding begins_run
begins_unheld table zero none = none
begins_unheld table (suc i) none = and_left (is_held table (suc i)) (not (is_held table i)) none

begins_within : (table : Table) (i j : ℕ) → i ≡ suc j → is_held table j ≡ true → begins_run table i ≡ false
unfolding begins_run
begins_within table i j is held = ap (λ (k : ℕ). begins_run table k) is ∙ and_right (is_held table (suc j)) (not (is_held table j)) (ap not held)

begins_first : (table : Table) (i : ℕ) → is_held table i ≡ true → ((j : ℕ) → i ≡ suc j → is_held table j ≡ false) → begins_run table i ≡ true
unfolding begins_run
begins_first table zero held before = held
begins_first table (suc i) held before = and_from (is_held table (suc i)) (not (is_held table i)) held (ap not (before i refl))

pub none_begun : (table : Table) → count_below (begins_run table) 0 ≡ 0
unfolding count_below
none_begun table = refl

pub none_held : (table : Table) → count_below (is_held table) 0 ≡ 0
unfolding count_below
none_held table = refl

pub log_units_none : (table : Table) → log_units table 0 ≡ 0
unfolding count_below
log_units_none table = refl

module _ (table : Table) (at first : ℕ) (from : at ≤ first) (before : (i : ℕ) → at ≤ i → i < first → is_held table i ≡ false) where
  gap : at + (first - at) ≡ first
  gap = omega arith

  pub gap_begins : count_below (begins_run table) first ≡ count_below (begins_run table) at
  gap_begins = ap (λ (k : ℕ). count_below (begins_run table) k) (sym gap)
      ∙ count_none (begins_run table) at (first - at) (λ i low high. begins_unheld table i (before i low (omega (arith, high, gap))))

  pub gap_units : count_below (is_held table) first ≡ count_below (is_held table) at
  gap_units = ap (λ (k : ℕ). count_below (is_held table) k) (sym gap)
      ∙ count_none (is_held table) at (first - at) (λ i low high. before i low (omega (arith, high, gap)))

  -- units that aren't held cost nothing
  pub gap_counted : log_units table first ≡ log_units table at
  gap_counted = omega (arith, gap_begins, gap_units)

  module _ (stop : ℕ) (some : first < stop) (held : (i : ℕ) → first ≤ i → i < stop → is_held table i ≡ true) (starts : 0 < at → is_held table at ≡ false) where
    previous : (j : ℕ) → first ≡ suc j → is_held table j ≡ false
    previous j is = elim (cases_lt j at) [
      | inr inside ↦ before j inside (omega (arith, is))
      | inl outside ↦
          let same : first ≡ at = omega (arith, is, from) in
          let never : true ≡ false = sym (held first (omega arith) some) ∙ ap (λ (k : ℕ). is_held table k) same ∙ starts (omega (arith, is, same)) in
          absurd cc
    ]

    within : (i : ℕ) → suc first ≤ i → i < stop → begins_run table i ≡ false
    within i low high =
        let j : ℕ = i - 1 in
        let is : i ≡ suc j = omega arith in
        begins_within table i j is (held j (omega arith) (omega arith))

    -- a run begins once
    pub run_begins : count_below (begins_run table) stop ≡ count_below (begins_run table) at + 1
    run_begins =
        let m : ℕ = stop - first - 1 in
        let is_m : suc first + m ≡ stop = omega arith in
        let starts_here : begins_run table first ≡ true = begins_first table first (held first (omega arith) some) previous in
        let head : count_below (begins_run table) (suc first) ≡ count_below (begins_run table) first + 1 = step_one (begins_run table) first starts_here in
        let rest : count_below (begins_run table) stop ≡ count_below (begins_run table) (suc first) =
        ap (λ (k : ℕ). count_below (begins_run table) k) (sym is_m)
        ∙ count_none (begins_run table) (suc first) m (λ i low high. within i low (omega (arith, high, is_m))) in
        omega (arith, head, rest, gap_begins)

    pub run_units : count_below (is_held table) stop ≡ count_below (is_held table) at + (stop - first)
    run_units =
        let n : ℕ = stop - first in
        let is_n : first + n ≡ stop = omega arith in
        let units : count_below (is_held table) stop ≡ count_below (is_held table) first + n =
        ap (λ (k : ℕ). count_below (is_held table) k) (sym is_n)
        ∙ count_all (is_held table) first n (λ i low high. held i low (omega (arith, high, is_n))) in
        omega (arith, units, gap_units)

    -- it costs its head and its units
    pub run_counted : log_units table stop ≡ log_units table at + 1 + (stop - first)
    run_counted = omega (arith, run_begins, run_units)

unbegun : (table : Table) (n : ℕ) → ((i : ℕ) → i < n → begins_run table i ≡ false) → (i : ℕ) → i < n → is_held table i ≡ false
unfolding begins_run
unbegun table n none zero below = none 0 below
unbegun table n none (suc i) below = either (is_held table (suc i)) (is_held table i) (none (suc i) below) (unbegun table n none i (omega arith))
  where
    either : (a b : Bool) → (a && not b) ≡ false → b ≡ false → a ≡ false
    either false b is unheld = refl
    either true true is unheld = absurd (let e : true ≡ false = unheld in cc)
    either true false is unheld = absurd (let e : true ≡ false = is in cc)

pub no_runs : (table : Table) (end : ℕ) → count_below (begins_run table) end ≡ 0 → log_units table end ≡ 0
no_runs table end none =
    let counted : count_below (is_held table) (0 + end) ≡ count_below (is_held table) 0 =
    count_none (is_held table) 0 end (λ i low high. unbegun table end (none_pass (begins_run table) end none) i (omega (arith, high))) in
    let same : 0 + end ≡ end = omega arith in
    omega (arith, none, counted, ap (λ (k : ℕ). count_below (is_held table) k) same, log_units_none table)

-- nothing costs nothing, and nothing is held
pub nothing_held : (table : Table) (end : ℕ) → log_units table end ≡ 0 → (i : ℕ) → i < end → is_held table i ≡ false
nothing_held table end none = none_pass (is_held table) end (omega (arith, none))
