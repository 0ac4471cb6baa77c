-- Rows that are gathered while the store changes, and the index that gets them.
use Rattle.std.proofs.Common.{◌≡◌, ℕ, ◌+◌, ◌≤◌, ◌++◌, ◌==◌, List, eqb, max, length, true, false, Option, None, Some, is_some, inl, inr, refl, ap, ◌∙◌, subst, arith}
use Rattle.std.proofs.lemmas.Bool.{and_parts, and_from, cases_Bool, eq-eqb}
use Rattle.std.proofs.lemmas.List.{length-replicate}
use Rattle.std.proofs.lemmas.Bool.Decides.{nat_tests}
use Rattle.std.specs.FinMap as finite
use Rattle.rpm_db.proofs.Vocabulary.{AreNetted, Balances, blank, Database, due, due_units, Files, HasChanged, HasRows, is_current, is_in_order}
use Rattle.rpm_db.proofs.Vocabulary.{IsCurrentIndex, IsOrdered, live_of, nat_cmp, no_row_changes, Package, packages, Row, RowChange, rows, times, with_rows}
use Rattle.rpm_db.proofs.Vocabulary.{generation_of, store_of, sealed_generation, sealed_in, IndexState, times-append, times_none, Units, units_for}
use Rattle.rpm_db.proofs.Found.{current_in_order}
use Rattle.rpm_db.proofs.Reached.{live_none}
use Rattle.rpm_hindex.proofs.laws.RowLaws.{live-append}

-- one more change, which drops rows that are there
pub balance_more : (owed : RowChange) (drops adds old mid new : List Row) → Balances owed old mid → HasChanged drops adds mid new
    → ((row : Row) → times row drops ≤ times row mid) → Balances (with_rows owed drops adds) old new
balance_more owed drops adds old mid new balances changed there row =
    omega (arith, balances row, changed row, there row, times-append row owed.drops drops, times-append row owed.adds adds)

-- without the rows that are dropped and added
pub balance_netted : (owed net : RowChange) (old new : List Row) → AreNetted owed.drops owed.adds net → Balances owed old new
    → HasChanged net.drops net.adds old new
balance_netted owed net old new both balances row = omega (arith, balances row, both.0 row, both.1 row)

-- rows that balance are no more than those before with those that are added
pub balance_most : (owed : RowChange) (old new : List Row) → Balances owed old new → (row : Row) → times row new ≤ times row (old ++ owed.adds)
balance_most owed old new balances row = omega (arith, balances row, times-append row old owed.adds)

-- an index that is owed nothing
pub rows_clear : (from to : finite.FinMap nat_cmp Package) (idx : Units) (owed : RowChange) → owed ≡ no_row_changes → HasRows from idx
    → Balances owed (rows from) (rows to) → HasRows to idx
rows_clear from to idx owed none has balances = record {
  whole = has.whole;
  same = λ row.
      (let same = subst (λ (o : RowChange). Balances o (rows from) (rows to)) none balances row in
      omega (arith, has.same row, same, times_none row));
}

-- ---- the seal

pub current_sealed : (g : ℕ) (s : IndexState) → is_current g s ≡ true → sealed_generation s.first ≡ g
unfolding is_current
current_sealed g s current =
    let test = (and_parts (eqb (sealed_generation s.first) g) (is_in_order s) current).0 in
    grind (arith, nat_tests, test)

pub other_sealed : (g : ℕ) (s : IndexState) → is_in_order s ≡ true → is_current g s ≡ false → sealed_generation s.first ≡ g → ⊥
unfolding is_current
other_sealed g s order other same =
    let both = and_from (eqb (sealed_generation s.first) g) (is_in_order s) (eq-eqb (sealed_generation s.first) g same) order in
    absurd cc

-- as the batch begins
pub ordered_of : (g : ℕ) (o : Option IndexState) → IsCurrentIndex g o → IsOrdered o
ordered_of g None is = tt
ordered_of g (Some s) is = current_in_order g s is

pub sealed_of : (g : ℕ) (o : Option IndexState) → is_some o ≡ true → IsCurrentIndex g o → sealed_in o ≡ g
sealed_of g None some is = absurd cc
sealed_of g (Some s) some is = current_sealed g s is

-- ---- how far the index is to reach

module _ (pkg idx : Units) (db : Database) (owed : RowChange) where
  due_least : (sealed_in db.index ≡ generation_of db → owed ≡ no_row_changes) → length idx + live_of owed.adds ≤ due_units pkg idx db owed
  due_least clear = elim (cases_Bool (sealed_in db.index == generation_of db)) [
    | inl same ↦
        (let is : sealed_in db.index ≡ generation_of db = grind (arith, nat_tests, same) in
        let none : live_of owed.adds ≡ 0 = ap (λ (o : RowChange). live_of o.adds) (clear is) ∙ live_none in
        rw same (omega (arith, none)))
    | inr other ↦ rw other (omega arith)
  ]

  due_behind : (sealed_in db.index ≡ generation_of db → ⊥)
      → due_units pkg idx db owed ≡ max (length idx + live_of owed.adds) (units_for (rows (packages pkg (store_of db))))
  due_behind other =
      let test : (sealed_in db.index == generation_of db) ≡ false = grind (arith, nat_tests, other) in
      rw test refl

-- with the rows of one more change
pub due_more : (old new : Files) (before after : Database) (owed more : RowChange) (drops adds : List Row) (added needed : ℕ) → new.idx ≡ old.idx
    → (sealed_in before.index ≡ generation_of before → owed ≡ no_row_changes) → (sealed_in after.index ≡ generation_of after → ⊥)
    → more ≡ with_rows owed drops adds → added ≡ live_of adds → needed ≡ units_for (rows (packages new.pkg (store_of after)))
    → length (due new after more).idx ≤ max (length (due old before owed).idx + added) needed
due_more old new before after owed more drops adds added needed same clear apart is added_is needed_is =
    omega (
      arith,
      length-replicate (due_units new.pkg new.idx after more) blank,
      length-replicate (due_units old.pkg old.idx before owed) blank,
      due_behind new.pkg new.idx after more apart,
      due_least old.pkg old.idx before owed clear,
      ap length same,
      ap (λ (o : RowChange). live_of o.adds) is,
      live-append owed.adds adds,
      added_is,
      needed_is,
    )
