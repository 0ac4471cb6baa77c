-- A change of the index that is worked out, as one of the rows of packages.
use Rattle.std.proofs.Common.{◌≡◌, ◌⊎◌, ℕ, ◌+◌, ◌-◌, ◌<◌, ◌≤◌, List, [], length, inl, inr, sym, ap, ◌∙◌, Ok, Err, Result, arith}
use Rattle.std.specs.Prelude.{IsOk}
use Rattle.std.specs.FinMap as finite
use Rattle.rpm_db.proofs.Vocabulary.{BadCause, buckets_of, ChangeFault, HasChanged, HasRows, index_in, IsPlanFor, IsWellFormed, live_of, nat_cmp, Package}
use Rattle.rpm_db.proofs.Vocabulary.{records, Row, rows, times, times_none, unit_at, Units, Work, WritesRows}
use Rattle.rpm_db.proofs.Reached.{live_none}
use Rattle.rpm_hindex.proofs.Fewer.{length_less, live_less}
use Rattle.rpm_db.specs.declared.change_fault.ChangeFault.TheVariants as change
use Rattle.rpm_hindex.proofs.Fitting.{changed_least}
use Rattle.rpm_hindex.specs.Refusals.{IsBadFor}
use Rattle.rpm_outside.specs.Words.{word}
use Rattle.rpm_hindex.specs.declared.faults.PrepareFault.TheVariants.{BadIndex}

module _ (drops adds : List Row) (old new : finite.FinMap nat_cmp Package) (idx : Units) (has : HasRows old idx)
    (changed : HasChanged drops adds (rows old) (rows new)) where
  abbrev recs : List Row
  recs = records (buckets_of (unit_at idx 0)) idx

  -- the change, of the records
  pub of_records : HasChanged drops adds recs (rows new)
  of_records row = changed row ∙ ap (λ (n : ℕ). (n - times row drops) + times row adds) (sym (has.same row))

  pub writes_rows : (work : Work) → IsPlanFor drops adds (buckets_of (unit_at idx 0)) idx work → WritesRows (rows new) work idx
  unfolding IsPlanFor
  writes_rows work plan = record { whole = plan.whole; same = λ row. plan.rows row ∙ sym (of_records row) }

no_error : {A : Type 0} (said : Result A ℕ) (unit : ℕ) → IsOk said → said ≡ Err unit → ⊥
no_error (Ok places) unit ok is = absurd cc
no_error (Err e) unit ok is = absurd cc

-- a well formed index is never bad: rows that it holds are no more than unit 1 counts
pub never_bad : (drops : List Row) (buckets unit : ℕ) (idx : Units) → IsWellFormed buckets idx → IsBadFor drops buckets idx (BadIndex unit) → ⊥
never_bad drops buckets unit idx whole (inl fault) = no_error _ unit (whole.chains fault.0 fault.1) fault.2
never_bad drops buckets unit idx whole (inr (is, d)) =
    let all = records buckets idx in
    let least = changed_least (index_in buckets idx) (word 1 (unit_at idx 1)) (word 2 (unit_at idx 1)) [] [] all all whole
    (λ row. omega (arith, times_none row)) (λ row. omega (arith, times_none row)) in
    either d.more (omega (arith, least.0, length_less d.gone all d.held)) (omega (arith, least.1, live_none, live_less d.gone all d.held))
  where
    either : (word 1 (unit_at idx 1) < length d.gone) ⊎ (word 2 (unit_at idx 1) < live_of d.gone) → length d.gone ≤ word 1 (unit_at idx 1)
        → live_of d.gone ≤ word 2 (unit_at idx 1) → ⊥
    either (inl more) few low = omega (arith, more, few)
    either (inr more) few low = omega (arith, more, low)

-- where fewer rows go, a fault is one where more go
pub bad_more : (few many : List Row) (idx : Units) (fault : ChangeFault) → ((row : Row) → times row few ≤ times row many) → BadCause few idx fault
    → BadCause many idx fault
bad_more few many idx (change.BadIndex unit) less (inl faulty) = inl faulty
bad_more few many idx (change.BadIndex unit) less (inr (is, d)) = inr (
  is,
  record {
    gone = d.gone;
    dropped = λ row. omega (arith, d.dropped row, less row);
    held = d.held;
    more = d.more;
  },
)
bad_more few many idx others less bad = tt
