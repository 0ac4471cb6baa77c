-- What Packages.db says: its slots, or its first damage.
use Rattle.std.specs.Prelude.{◌≡◌, ℕ, ◌+◌, List, [], length, Bool, false, not, ◌==◌, if◌then◌else◌, Option, Some, None}
use Rattle.std.specs.Prelude.{Result, Ok, Err, max}
use Rattle.std.specs.List.{list_any}
use Rattle.rpm_outside.specs.Files.{Units, unit_at}
use Rattle.rpm_pkgdb.specs.declared.slot.Slot.{Slot}
use Rattle.rpm_pkgdb.specs.declared.slot.Damage.{Damage}
use Rattle.rpm_pkgdb.specs.declared.slot.OpenFault.{OpenFault}
use Rattle.rpm_pkgdb.specs.declared.slot.OpenFault.TheVariants.{Damaged, DiskFault, NoMemory}
use Rattle.rpm_pkgdb.specs.Words.{word}
use Rattle.rpm_pkgdb.specs.Slots.{slots_in, greatest}
use Rattle.rpm_pkgdb.specs.Damages.{damage_at, head_reason, slot_units, table_fault}

-- A blank file is the store of no pages, whose next number is 1. The last two are of a value alone: how many ranges it
-- can still take without memory, and whether a writing call failed. A file says 0 and false.
pub record Store : Type 0 where
  pub generation : ℕ
  pub pages : ℕ
  pub field : ℕ
  pub slots : List Slot
  pub spare : ℕ
  pub is_stopped : Bool

-- what the file says of a store
abbrev pub in_file : Store → Store
in_file store = record store { spare = 0; is_stopped = false }

-- the greater of the field and one above the greatest number
abbrev pub next_number : Store → ℕ
next_number store = max store.field (greatest (λ s. s.number) store.slots + 1)

-- the store of a blank file
abbrev pub blank_store : Store
blank_store = record { generation = 0; pages = 0; field = 1; slots = []; spare = 0; is_stopped = false }

-- There are no units, or unit 0 is all zeros: a unit past the end counts as zeros.
abbrev pub is_blank : Units → Bool
is_blank file = not (list_any (λ b. not (b == 0)) (unit_at file 0))

-- the store of so many pages, or the first damage of its table
abbrev pub store_of_pages : ℕ → Units → Result Store Damage
store_of_pages pages file = elim (table_fault pages (length file) (slot_units pages file)) [
  | Some damage ↦ Err damage
  | None ↦ Ok (record blank_store {
    generation = word 2 (unit_at file 0);
    pages = pages;
    field = word 0 (unit_at file 1);
    slots = slots_in (slot_units pages file);
  })
]

-- the store that Packages.db holds, or its first damage
unfoldable pub store : Units → Result Store Damage
store file = if is_blank file then Ok blank_store else elim (head_reason (length file) (unit_at file 0)) [
  | Some reason ↦ Err (damage_at 0 reason)
  | None ↦ store_of_pages (word 3 (unit_at file 0)) file
]

-- what a value keeps of a file is what the file says
abbrev pub KeepsStore : Units → Store → Type 0
KeepsStore file value = store file ≡ Ok (in_file value)

-- ---- answers

-- what opening answers of this store
abbrev pub OpenIs : Result Store Damage → Result Store OpenFault → Type 0
OpenIs said (Ok store) = said ≡ Ok store
OpenIs said (Err (Damaged d)) = said ≡ Err d
OpenIs said (Err DiskFault) = Unit {0}
OpenIs said (Err NoMemory) = Unit {0}

-- a fault of opening names the damage, where it names one
abbrev pub DamageIs : OpenFault → Option Damage → Type 0
DamageIs (Damaged d) fault = fault ≡ Some d
DamageIs DiskFault fault = Unit {0}
DamageIs NoMemory fault = Unit {0}

-- a refusal of a call that doesn't take the disk names this fault
abbrev pub SaysHere : OpenFault → Option Damage → Type 0
SaysHere (Damaged d) fault = fault ≡ Some d
SaysHere DiskFault fault = ⊥
SaysHere NoMemory fault = Unit {0}
