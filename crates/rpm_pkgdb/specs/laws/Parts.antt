-- Parts of the definitions by name, as proofs, and clauses of a crate's own functions, cite them.
use Rattle.std.specs.Prelude.{ℕ, ◌+◌, ◌*◌, List, map, Bool, false, not, ◌&&◌, ◌==◌, nat_lt}
use Rattle.std.specs.Prelude.{if◌then◌else◌, Option, Some, None, Result, Ok, Err, unwrap_or}
use Rattle.std.specs.List.{list_any}
use Rattle.std.specs.Option.{option_map}
use Rattle.rpm_outside.specs.Files.{Units, unit_at}
use Rattle.rpm_pkgdb.specs.declared.added_page.Move.{Move}
use Rattle.rpm_pkgdb.specs.declared.plan.Target.{Target}
use Rattle.rpm_pkgdb.specs.declared.slot.Damage.{Damage}
use Rattle.rpm_pkgdb.specs.declared.slot.Reason.{Reason}
use Rattle.rpm_pkgdb.specs.declared.slot.Slot.{Slot}
use Rattle.rpm_pkgdb.specs.Blobs.{blob_in, blocks_for, frame_of}
use Rattle.rpm_pkgdb.specs.Damages.{damage_at, slot_units}
use Rattle.rpm_pkgdb.specs.Placing.{count_before, moves_from}
use Rattle.rpm_pkgdb.specs.Slots.{end_of, free, greatest, has_number, is_used, slots_in}
use Rattle.rpm_pkgdb.specs.Store.{Store, store_of_pages}
use Rattle.rpm_pkgdb.specs.Words.{word}

-- whether a byte isn't zero
abbrev pub is_nonzero : ℕ → Bool
is_nonzero b = not (b == 0)

-- the store of so many pages
abbrev pub made_store : ℕ → Units → Store
made_store pages file =
    record {
      generation = word 2 (unit_at file 0);
      pages = pages;
      field = word 0 (unit_at file 1);
      slots = slots_in (slot_units pages file);
      spare = 0;
      is_stopped = false;
    }

-- the fault where there is one, and otherwise the value
abbrev pub value_or_fault : {X E : Type 0} → Option E → X → Result X E
value_or_fault fault x = elim fault [ Some e ↦ Err e | None ↦ Ok x ]

-- the store, unless its head has a fault
abbrev pub made_or_damaged : Option Reason → Units → Result Store Damage
made_or_damaged fault file =
    elim fault [ Some reason ↦ Err (damage_at 0 reason) | None ↦ store_of_pages (word 3 (unit_at file 0)) file ]

-- the greatest number of a used slot, and 0 where none is used
abbrev pub greatest_number : List Slot → ℕ
greatest_number slots = greatest (λ s. s.number) slots

-- the first block after all used ones
abbrev pub last_end : List Slot → ℕ
last_end slots = greatest end_of slots

-- what opening reads: unit 0 alone, or all slot pages where nothing is wrong with it
abbrev pub head_cost : Option Reason → List ℕ → ℕ
head_cost fault head = elim fault [ Some reason ↦ 16 | None ↦ 4096 * word 3 head ]

-- a slot's number, and its blob; None where the framing is broken
abbrev pub entry_of_slot : Units → Slot → ℕ × Option (List ℕ)
entry_of_slot file s = (s.number, option_map blob_in (frame_of s.number s file))

-- a slot that is free if it has this number
abbrev pub freed_slot : ℕ → Slot → Slot
freed_slot n s = if has_number n s then free else s

-- the slots, with that of a package free
abbrev pub freed_slots : ℕ → List Slot → List Slot
freed_slots n slots = map (freed_slot n) slots

-- the number field, where it is written anew
abbrev pub field_after : Option ℕ → ℕ → ℕ
field_after next field = unwrap_or next field

-- a store with its number field written anew
abbrev pub with_next : Option ℕ → Store → Store
with_next next value = record value { field = field_after next value.field }

-- the slot that is written
abbrev pub slot_for : Target → Slot
slot_for target = record { number = target.number; offset = target.start; count = blocks_for target.length }

-- a slot whose blocks stand elsewhere
abbrev pub moved_slot : Slot → ℕ → Slot
moved_slot old to = record old { offset = to }

-- the count of pages after a growth, where there is one
abbrev pub pages_after : Option (List Move) → ℕ → ℕ
pages_after moves pages = elim moves [ None ↦ pages | Some made ↦ pages + 1 ]

-- whether a used slot's blocks begin before those of all others
abbrev pub is_first : List Slot → Slot → Bool
is_first slots s = is_used s && not (list_any (λ t. is_used t && nat_lt t.offset s.offset) slots)

-- one where a slot's blocks begin before a block, else zero
abbrev pub one_before : ℕ → Slot → ℕ
one_before end s = if is_used s && nat_lt s.offset end then 1 else 0

-- the moves of all ranges that begin before a block to places from it on, and None where one finds none
abbrev pub all_moves : List Slot → ℕ → Option (List Move)
all_moves slots end = moves_from (count_before end slots) slots end
