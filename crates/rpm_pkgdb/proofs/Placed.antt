-- Where the slot of a number lies, in a store without damage.
use Rattle.std.proofs.Common.{◌≡◌, ℕ, zero, suc, ◌<◌, List, [], ◌∷◌, ◌++◌, length, true, Option, Some, None, Result, Ok, refl, sym, ap, ◌∙◌, arith, inl, inr}
use Rattle.std.proofs.lemmas.Bool.{cases_Bool}
use Rattle.rpm_pkgdb.proofs.Vocabulary.{blank_store, Damage, free, has_number, head_reason, is_blank, is_used, IsPlaced, list_any, made_or_damaged}
use Rattle.rpm_pkgdb.proofs.Vocabulary.{made_store, option_or, own_reason, Reason, run, Slot, slot_at, slot_fault, slot_of, slot_with, slots_in, Store, store}
use Rattle.rpm_pkgdb.proofs.Vocabulary.{slot_units, table_fault, table_is_run, unit_at, Units, value_or_fault, word}
use Rattle.rpm_pkgdb.proofs.Facts.{number_facts}
use Rattle.rpm_pkgdb.proofs.Kept.{find_none, find_some}
use Rattle.rpm_pkgdb.proofs.Sound.{placed_slot, no_own}
use Rattle.rpm_pkgdb.proofs.Steps.{length-slots_in}

both_none : {X : Type 0} (a b : Option X) → option_or a b ≡ None → (a ≡ None) × (b ≡ None)
both_none None b e = (refl, e)
both_none (Some x) b e = absurd cc

slot_in : (us : Units) (k : ℕ) → k < length us → slot_at (slots_in us) k ≡ slot_of (unit_at us k)
unfolding slots_in
slot_in [] k below = absurd (omega arith)
slot_in (u ∷ us) zero below = refl
slot_in (u ∷ us) (suc k) below = slot_in us k (omega arith)

own_in_run : (pages units : ℕ) (earlier : List Slot) (us : Units) (k : ℕ) → run pages units earlier us ≡ None → k < length us
    → own_reason pages units (unit_at us k) ≡ None
own_in_run pages units earlier [] k none below = absurd (omega arith)
own_in_run pages units earlier (u ∷ us) zero none below =
    (let b = both_none (slot_fault pages units earlier u) (run pages units (earlier ++ slot_of u ∷ []) us) none in no_own pages units earlier u b.0)
own_in_run pages units earlier (u ∷ us) (suc k) none below =
    let b = both_none (slot_fault pages units earlier u) (run pages units (earlier ++ slot_of u ∷ []) us) none in
    own_in_run pages units (earlier ++ slot_of u ∷ []) us k b.1 (omega arith)

-- the slot that is found stands at a place
record Stands (n : ℕ) (slots : List Slot) (s : Slot) : Type 0 where
  at : ℕ
  below : at < length slots
  used : is_used (slot_at slots at) ≡ true
  is : s ≡ slot_at slots at

stands : (n : ℕ) (slots : List Slot) (s : Slot) → slot_with n slots ≡ Some s → Stands n slots s
stands n slots s found = elim (cases_Bool (list_any (has_number n) slots)) [
  | inl any ↦
      (let f = find_some (has_number n) slots free any in
      let facts = number_facts n (slot_at slots f.at) f.holds in
      let is : s ≡ slot_at slots f.at = (let e = f.is in cc) in
      record { at = f.at; below = f.below; used = facts.used; is = is })
  | inr none ↦ absurd (let e = find_none (has_number n) slots none in cc)
]

placed_in_table : (pages units n : ℕ) (us : Units) (s : Slot) → table_fault pages units us ≡ None → slot_with n (slots_in us) ≡ Some s → IsPlaced pages units s
placed_in_table pages units n us s none found =
    let st = stands n (slots_in us) s found in
    let below : st.at < length us = omega (arith, st.below, length-slots_in us) in
    let unit = unit_at us st.at in
    let is : s ≡ slot_of unit = st.is ∙ slot_in us st.at below in
    let used : is_used s ≡ true = ap is_used st.is ∙ st.used in
    placed_slot pages units unit s (own_in_run pages units [] us st.at (sym (table_is_run pages units us) ∙ none) below) is used

-- a store that is made, without damage
record Made (file : Units) (st : Store) : Type 0 where
  pages : ℕ
  sound : table_fault pages (length file) (slot_units pages file) ≡ None
  slots : st.slots ≡ slots_in (slot_units pages file)

made_from : (pages : ℕ) (file : Units) (st : Store) (fault : Option Damage) → table_fault pages (length file) (slot_units pages file) ≡ fault
    → value_or_fault fault (made_store pages file) ≡ Ok st → Made file st
made_from pages file st None e is =
    let same : made_store pages file ≡ st = cc in
    record { pages = pages; sound = e; slots = sym (ap (λ (s : Store). s.slots) same) }
made_from pages file st (Some d) e is = absurd cc

made_or : (file : Units) (st : Store) (reason : Option Reason) → made_or_damaged reason file ≡ Ok st → Made file st
made_or file st (Some r) is = absurd cc
made_or file st None is =
    made_from (word 3 (unit_at file 0)) file st (table_fault (word 3 (unit_at file 0)) (length file) (slot_units (word 3 (unit_at file 0)) file)) refl is

ok_same : (x y : Store) (r : Result Store Damage) → r ≡ Ok x → r ≡ Ok y → x ≡ y
ok_same x y r e f = cc

pub record Lies (file : Units) (s : Slot) : Type 0 where
  pub pages : ℕ
  pub placed : IsPlaced pages (length file) s

pub lies : (file : Units) (st : Store) (n : ℕ) (s : Slot) → store file ≡ Ok st → slot_with n st.slots ≡ Some s → Lies file s
unfolding store
lies file st n s is found = elim (cases_Bool (is_blank file)) [
  | inl blank ↦
      absurd (
      let same : blank_store ≡ st = ok_same blank_store st (Ok blank_store) refl (rw blank at is) in
      let none : slot_with n st.slots ≡ None = ap (λ (x : Store). slot_with n x.slots) (sym same) in
      cc
      )
  | inr other ↦
      (let said : made_or_damaged (head_reason (length file) (unit_at file 0)) file ≡ Ok st = rw other at is in
      let m = made_or file st (head_reason (length file) (unit_at file 0)) said in
      record { pages = m.pages; placed = placed_in_table m.pages (length file) n (slot_units m.pages file) s m.sound (ap (slot_with n) (sym m.slots) ∙ found) })
]
