-- The bytes of held units that were gathered.
use Rattle.std.proofs.Common.{◌≡◌, inl, inr, ℕ, ◌+◌, ◌/◌, List, length, refl, sym, ◌∙◌, arith, true, false}
use Rattle.std.specs.Prelude.{Option, Some, None, is_some, unwrap_or}
use Rattle.std.proofs.lemmas.List.{get_or_past}
use Rattle.std.proofs.lemmas.Bool.{cases_lt}
use Rattle.rpm_group.proofs.Vocabulary.{AreHeld, blank, held_at, LaysOver, length-cut_up, same_units, Table, unit_in, units_held, units_of}
use Rattle.rpm_group.proofs.Laids.{unit_of_bytes}
use Rattle.rpm_group.proofs.Runs.{length-units_held, unit_at-units_held}

-- the bytes of held units that were copied one by one
pub gathered_units : (table : Table) (from n : ℕ) (old into : List ℕ) → n ≡ length into / 16 → length into ≡ length old → AreHeld table from (from + n)
    → LaysOver from table old into → units_of into ≡ units_held table from n
gathered_units table from n old into is_n same_long held lays = same_units (units_of into) (units_held table from n)
    (omega (arith, length-cut_up (length into / 16) into, length-units_held table from n, is_n))
    (λ k. elim (cases_lt k n) [
      | inl below ↦
          unit_of_bytes into k (omega (arith, is_n))
          ∙ lays k (omega (arith, same_long, is_n))
          ∙ whatever (held_at table (from + k)) (unit_in old k) (held (from + k) (omega arith) (omega arith))
          ∙ sym (unit_at-units_held table from n k below)
      | inr past ↦
          get_or_past (units_of into) k blank (omega (arith, length-cut_up (length into / 16) into, is_n))
          ∙ sym (get_or_past (units_held table from n) k blank (omega (arith, length-units_held table from n)))
    ])
  where
    whatever : (unit : Option (List ℕ)) (other : List ℕ) → is_some unit ≡ true → unwrap_or unit other ≡ unwrap_or unit blank
    whatever (Some unit) other there = refl
    whatever None other there = absurd (let e : false ≡ true = there in cc)
