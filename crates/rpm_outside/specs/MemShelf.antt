-- What the shelf in memory holds, and when a read fails.
use Rattle.std.specs.Prelude.{◌≡◌, ℕ, ◌+◌, ◌-◌, ◌^◌, ◌≤◌, min, length, Bool, List, map, drop, slice_get, Option, Some}
use Rattle.std.specs.Prelude.{None, false, ◌==◌, string_bytes}
use Rattle.std.specs.Option.{option_map, option_map_or}
use Rattle.std.specs.FinMap.{from_entries}
use Rattle.rpm_outside.specs.declared.mem_shelf.Item.{Item}
use Rattle.rpm_outside.specs.declared.mem_shelf.Opened.{Opened}
use Rattle.rpm_outside.specs.declared.mem_shelf.MemShelf.{MemShelf}
use Rattle.rpm_outside.specs.Causes.{CountsFailures}
use Rattle.rpm_outside.specs.Shelves.{Paths, ShelfCall, Open, Take}

-- an item of a shelf as its path and its bytes
abbrev pub entry_of_item : Item → List ℕ × List ℕ
entry_of_item item = (string_bytes item.path, item.bytes.items)

-- a shelf has the items by path; where two have one path the first counts
abbrev pub paths_of : List Item → Paths
paths_of items = from_entries (map entry_of_item items)

-- the bytes of an item, by its place
abbrev pub bytes_in : List Item → ℕ → Option (List ℕ)
bytes_in items i = option_map (λ item. item.bytes.items) (slice_get items i)

-- what is left to read of an opened item
abbrev pub left_in : List Item → Opened → Option (List ℕ)
left_in items opened = option_map (drop opened.at) (bytes_in items opened.item)

-- what is left to read, where an item is open
abbrev pub rest_of_item : List Item → Option Opened → Option (List ℕ)
rest_of_item items None = None
rest_of_item items (Some opened) = left_in items opened

-- the contents of the shelf, by path
abbrev pub shelf_paths : MemShelf → Paths
shelf_paths shelf = paths_of shelf.items.items

-- what is left to read of the opened item
abbrev pub shelf_rest : MemShelf → Option (List ℕ)
shelf_rest shelf = rest_of_item shelf.items.items shelf.opened

-- how many bytes a read takes at most
abbrev pub shelf_most : MemShelf → ℕ
shelf_most shelf = shelf.more + 1

-- the number of the read that is to fail
abbrev pub shelf_failing : MemShelf → Option ℕ
shelf_failing shelf = shelf.failing

-- how many reads came
abbrev pub shelf_reads : MemShelf → ℕ
shelf_reads shelf = shelf.reads

-- how often a path wasn't there
abbrev pub shelf_absences : MemShelf → ℕ
shelf_absences shelf = shelf.absences

-- how often a call failed
abbrev pub shelf_faults : MemShelf → ℕ
shelf_faults shelf = shelf.faults

-- what a call leaves that doesn't read
pub record SameReads (old new : MemShelf) : Type 0 where
  pub reads : shelf_reads new ≡ shelf_reads old
  pub absences : shelf_absences new ≡ shelf_absences old
  pub faults : shelf_faults new ≡ shelf_faults old

-- how many bytes are left to read
abbrev pub length_left : Option (List ℕ) → ℕ
length_left None = 0
length_left (Some bytes) = length bytes

-- the reads are counted from 1, and the one that was named fails, and no other; none takes more than so many bytes
pub record FailsAsNamed (old : MemShelf) (failed : Bool) (new : MemShelf) : Type 0 where
  pub counted : shelf_reads new ≡ min (shelf_reads old + 1) (2 ^ 64 - 1)
  pub named : failed ≡ option_map_or (λ read. read == shelf_reads new) (shelf_failing old) false
  pub faults : CountsFailures failed (shelf_faults old) (shelf_faults new)
  pub failing : shelf_failing new ≡ shelf_failing old
  pub most : shelf_most new ≡ shelf_most old
  pub few : length_left (shelf_rest old) ≤ length_left (shelf_rest new) + shelf_most old

-- what an open leaves for the reads after it; the count of absences rises where it fails
pub record OpensAsTold (old : MemShelf) (failed : Bool) (new : MemShelf) : Type 0 where
  pub absences : CountsFailures failed (shelf_absences old) (shelf_absences new)
  pub reads : shelf_reads new ≡ shelf_reads old
  pub failing : shelf_failing new ≡ shelf_failing old
  pub most : shelf_most new ≡ shelf_most old

-- a call of the shelf fails where it is told to, and does as it says elsewhere
abbrev pub ShelfDoes : MemShelf → ShelfCall → Bool → MemShelf → Type 0
ShelfDoes old (Open path) failed new = OpensAsTold old failed new
ShelfDoes old (Take room) failed new = FailsAsNamed old failed new
