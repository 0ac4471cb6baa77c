-- No package of a file has the number 0.
use Rattle.std.proofs.Common.{◌≡◌, ℕ, ◌+◌, List, [], ◌∷◌, ◌++◌, length, false, Option, Some, None, is_some, Ok, refl}
use Rattle.std.proofs.Common.{sym, ap, ◌∙◌, inl, inr, arith}
use Rattle.std.specs.Option.{option_map, option_or}
use Rattle.std.proofs.lemmas.Bool.{cases_Bool}
use Rattle.std.proofs.lemmas.Bool.Decides.{nat_tests}
use Rattle.rpm_outside.specs.Files.{Units, unit_at}
use Rattle.rpm_pkgdb.specs.declared.slot.Slot.{Slot}
use Rattle.rpm_pkgdb.specs.declared.slot.Damage.{Damage}
use Rattle.rpm_pkgdb.specs.declared.slot.Reason.{Reason}
use Rattle.rpm_pkgdb.specs.Words.{word}
use Rattle.rpm_pkgdb.specs.Slots.{slot_of, slots_in, slot_with, has_number}
use Rattle.rpm_pkgdb.specs.Damages.{damage_at, head_reason, own_reason, shared_reason, slot_fault, slot_units}
use Rattle.rpm_pkgdb.specs.Damages.{table_fault}
use Rattle.rpm_pkgdb.specs.Store.{Store, blank_store, is_blank, store}
use Rattle.rpm_pkgdb.specs.laws.Parts.{made_store, made_or_damaged, value_or_fault}
use Rattle.rpm_pkgdb.proofs.laws.Runs.{run, table_is_run}
use Rattle.rpm_db.specs.Database.{Database, Keeps, holds}

-- ---- a table without damage

neither : {X Y : Type 0} (f : X → Y) (a b : Option X) → option_map f (option_or a b) ≡ None → a ≡ None
neither f None b none = refl
neither f (Some x) b none = absurd cc

both_none : {X : Type 0} (a b : Option X) → option_or a b ≡ None → (a ≡ None) × (b ≡ None)
both_none None b none = (refl, none)
both_none (Some x) b none = absurd cc

own_some : (pages units : ℕ) (unit : List ℕ) → own_reason pages units unit ≡ None → has_number 0 (slot_of unit) ≡ false
unfolding own_reason
own_some pages units unit none = grind (arith, nat_tests)

none_in_run : (pages units : ℕ) (earlier : List Slot) (us : Units) → run pages units earlier us ≡ None
    → slot_with 0 (slots_in us) ≡ None
unfolding slots_in
none_in_run pages units earlier [] none = refl
none_in_run pages units earlier (u ∷ us) none =
    let both = both_none (slot_fault pages units earlier u) (run pages units (earlier ++ slot_of u ∷ []) us) none in
    let own = neither (damage_at (2 + length earlier)) (own_reason pages units u)
    (shared_reason earlier (slot_of u)) both.0 in
    rw (own_some pages units u own) (none_in_run pages units (earlier ++ slot_of u ∷ []) us both.1)

-- ---- a store

none_made : (file : Units) (s : Store) (pages : ℕ) (fault : Option Damage)
    → table_fault pages (length file) (slot_units pages file) ≡ fault
    → value_or_fault fault (made_store pages file) ≡ Ok s → slot_with 0 s.slots ≡ None
none_made file s pages (Some d) e is = absurd cc
none_made file s pages None e is =
    let same : made_store pages file ≡ s = cc in
    ap (λ (v : Store). slot_with 0 v.slots) (sym same)
    ∙ none_in_run pages (length file) [] (slot_units pages file)
    (sym (table_is_run pages (length file) (slot_units pages file)) ∙ e)

none_read : (file : Units) (s : Store) (reason : Option Reason) → made_or_damaged reason file ≡ Ok s
    → slot_with 0 s.slots ≡ None
none_read file s (Some r) is = absurd cc
none_read file s None is =
    let pages = word 3 (unit_at file 0) in
    none_made file s pages (table_fault pages (length file) (slot_units pages file)) refl is

-- of a store that a file says
pub none_stored : (file : Units) (s : Store) → store file ≡ Ok s → slot_with 0 s.slots ≡ None
unfolding store
none_stored file s is = elim (cases_Bool (is_blank file)) [
  | inl blank ↦ (let same : Ok blank_store ≡ Ok s = rw blank at is in
      let one : blank_store ≡ s = cc in ap (λ (v : Store). slot_with 0 v.slots) (sym one))
  | inr other ↦ none_read file s (head_reason (length file) (unit_at file 0)) (rw other at is)
]

pub from_one : (file : Units) (db : Database) → Keeps file db → holds 0 db ≡ false
from_one file db keeps = ap is_some (none_stored file _ keeps)
