-- A file under what is held of it.
use Rattle.std.proofs.Common.{◌≡◌, ◌⊎◌, inl, inr, ℕ, ◌+◌, ◌-◌, ◌/◌, ◌<◌, ◌≤◌, max, List, [], length, sym, ap, ◌∙◌, arith}
use Rattle.std.specs.Prelude.{Option, Some, None, unwrap_or}
use Rattle.std.proofs.lemmas.List.{get_or_past}
use Rattle.std.proofs.lemmas.List.FromFn.{length-map-range_with_len, get_or-map-range_with_len}
use Rattle.std.proofs.lemmas.Bool.{cases_lt}
use Rattle.rpm_group.proofs.Vocabulary.{blank, IsHeldBelow, held_at, HoldsUnits, laid_units, length-cut_up, length-put, with_units, put_after, put_before, put_inside, same_units}
use Rattle.rpm_group.proofs.Vocabulary.{SameHeld, Table, unit_at, unit_at-cut_up, unit_in, unit_over, Units, units_of}

pub length-laid : (table : Table) (end : ℕ) (file : Units) → length (laid_units table end file) ≡ max (length file) end
unfolding laid_units
length-laid table end file = length-map-range_with_len (unit_over table file) 0 (max (length file) end)

pub unit_at-laid : (table : Table) (end : ℕ) (file : Units) → IsHeldBelow table end → (i : ℕ) → unit_at (laid_units table end file) i ≡ unit_over table file i
unfolding laid_units
unit_at-laid table end file past i = elim (cases_lt i (max (length file) end)) [
  | inl below ↦ get_or-map-range_with_len (unit_over table file) 0 (max (length file) end) i i blank below (omega arith)
  | inr out ↦
      get_or_past (laid_units table end file) i blank (omega (arith, length-map-range_with_len (unit_over table file) 0 (max (length file) end)))
      ∙ sym (get_or_past file i blank (omega arith))
      ∙ sym (ap (λ (o : Option (List ℕ)). unwrap_or o (unit_at file i)) (past i (omega arith)))
]

-- nothing held, nothing changed
pub laid_none : (table : Table) (file : Units) → IsHeldBelow table 0 → laid_units table 0 file ≡ file
laid_none table file past = same_units (laid_units table 0 file) file (omega (arith, length-laid table 0 file))
    (λ i. unit_at-laid table 0 file past i ∙ ap (λ (o : Option (List ℕ)). unwrap_or o (unit_at file i)) (past i (omega arith)))

pub laid_same : (old new : Table) (end : ℕ) (file : Units) → IsHeldBelow old end → IsHeldBelow new end → SameHeld old new
    → laid_units new end file ≡ laid_units old end file
laid_same old new end file past after same =
    same_units (laid_units new end file) (laid_units old end file) (omega (arith, length-laid new end file, length-laid old end file))
    (λ i. unit_at-laid new end file after i ∙ ap (λ (o : Option (List ℕ)). unwrap_or o (unit_at file i)) (same i) ∙ sym (unit_at-laid old end file past i))

-- unit k of these bytes, said in two ways
pub unit_of_bytes : (bytes : List ℕ) (k : ℕ) → k < length bytes / 16 → unit_at (units_of bytes) k ≡ unit_in bytes k
unit_of_bytes bytes k below = unit_at-cut_up (length bytes / 16) bytes k below

module _ (unit : ℕ) (bytes : List ℕ) (old new : Table) (end next : ℕ) (holds : HoldsUnits unit bytes old new) (past : IsHeldBelow old end)
    (is : next ≡ max end (unit + length bytes / 16)) where
  pub ends_later : IsHeldBelow new next
  ends_later i after = holds.outside i (inr (omega (arith, after, is))) ∙ past i (omega (arith, after, is))

  count : length (units_of bytes) ≡ length bytes / 16
  count = length-cut_up (length bytes / 16) bytes

  -- units that are held are written
  pub laid_more : (file : Units) → laid_units new next file ≡ with_units unit (units_of bytes) (laid_units old end file)
  laid_more file = same_units (laid_units new next file) (with_units unit (units_of bytes) (laid_units old end file))
      (omega (arith, length-laid new next file, length-put unit (units_of bytes) (laid_units old end file), length-laid old end file, count, is))
      each
    where
      outside : (i : ℕ) → (i < unit) ⊎ (unit + length bytes / 16 ≤ i) → unit_at (laid_units new next file) i ≡ unit_at (laid_units old end file) i
      outside i out =
          unit_at-laid new next file ends_later i
          ∙ ap (λ (o : Option (List ℕ)). unwrap_or o (unit_at file i)) (holds.outside i out)
          ∙ sym (unit_at-laid old end file past i)

      each : (i : ℕ) → unit_at (laid_units new next file) i ≡ unit_at (with_units unit (units_of bytes) (laid_units old end file)) i
      each i = elim (cases_lt i unit) [
        | inl before ↦ outside i (inl before) ∙ sym (put_before unit (units_of bytes) (laid_units old end file) i before)
        | inr from ↦ elim (cases_lt i (unit + length bytes / 16)) [
          | inr after ↦ outside i (inr after) ∙ sym (put_after unit (units_of bytes) (laid_units old end file) i (omega (arith, count, after)))
          | inl inside ↦
              let k : ℕ = i - unit in
              let place : i ≡ unit + k = omega arith in
              let below : k < length bytes / 16 = omega arith in
              unit_at-laid new next file ends_later i
              ∙ ap (λ (j : ℕ). unwrap_or (held_at new j) (unit_at file i)) place
              ∙ ap (λ (o : Option (List ℕ)). unwrap_or o (unit_at file i)) (holds.inside k below)
              ∙ sym (unit_of_bytes bytes k below)
              ∙ sym (put_inside unit (units_of bytes) (laid_units old end file) k (omega (arith, count, below)))
              ∙ ap (λ (j : ℕ). unit_at (with_units unit (units_of bytes) (laid_units old end file)) j) (sym place)
        ]
      ]

-- an empty table holds nothing
pub held_nothing : (table : Table) → table ≡ [] → IsHeldBelow table 0
unfolding held_at
held_nothing table is i from = ap (λ (t : Table). held_at t i) is

pub some_held : (o : Option (List ℕ)) (unit : List ℕ) → o ≡ Some unit → o ≡ None → ⊥
some_held o unit some none = let e : Some unit ≡ None = sym some ∙ none in cc

-- the last unit is held
pub last_held : (unit n : ℕ) (bytes : List ℕ) (old new : Table) (end next : ℕ) → HoldsUnits unit bytes old new → next ≡ max end (unit + n)
    → n ≡ length bytes / 16 → 0 < n → (0 < end → held_at old (end - 1) ≡ None → ⊥) → held_at new (next - 1) ≡ None → ⊥
last_held unit n bytes old new end next holds is is_n some last none = elim (cases_lt (unit + n) end) [
  | inl longer ↦
      let same : next - 1 ≡ end - 1 = omega arith in
      last (omega arith) (sym (holds.outside (end - 1) (inr (omega arith))) ∙ ap (λ (i : ℕ). held_at new i) (sym same) ∙ none)
  | inr shorter ↦
      let same : next - 1 ≡ unit + (n - 1) = omega arith in
      some_held (held_at new (unit + (n - 1))) (unit_in bytes (n - 1)) (holds.inside (n - 1) (omega arith)) (ap (λ (i : ℕ). held_at new i) (sym same) ∙ none)
]
