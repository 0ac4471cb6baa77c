-- What stands in the blocks of a slot.
use Rattle.std.specs.Prelude.{ℕ, ◌+◌, ◌-◌, ◌/◌, List, length, take, drop, map, Bool, not, ◌&&◌, ◌==◌, nat_lt}
use Rattle.std.specs.Prelude.{if◌then◌else◌, Option, Some, None, codes}
use Rattle.std.specs.List.{filter}
use Rattle.std.specs.Option.{option_map}
use Rattle.std.specs.Int.{w32, from_le_bytes}
use Rattle.std.specs.Ordering.{nat_cmp}
use Rattle.std.specs.FinMap as finite
use Rattle.rpm_outside.specs.Files.{Units, unit_at, bytes_of}
use Rattle.rpm_pkgdb.specs.declared.slot.Slot.{Slot}
use Rattle.rpm_pkgdb.specs.Words.{word, begins_with_word}
use Rattle.rpm_pkgdb.specs.Slots.{is_used, slot_with}
use Rattle.rpm_pkgdb.specs.Store.{Store}

-- how many blocks a blob of so many bytes takes, with its head of 16 bytes and its tail of 12
abbrev pub blocks_for : ℕ → ℕ
blocks_for length = (28 + length + 15) / 16

-- the first unit of a blob's blocks, and the bytes of the others
pub record Frame : Type 0 where
  pub head : List ℕ
  pub rest : List ℕ

-- the last 12 bytes
abbrev pub tail : List ℕ → List ℕ
tail rest = drop (length rest - 12) rest

-- the head is of this number, and its length is lawful and that of so many blocks; its generation isn't looked at
unfoldable pub is_head : ℕ → ℕ → List ℕ → Bool
is_head n count head = begins_with_word (codes "BlbS") head
    && (word 1 head == n && (not (nat_lt 68157432 (word 3 head)) && count == blocks_for (word 3 head)))

-- the tail repeats the length and ends in its magic
unfoldable pub is_tail : ℕ → List ℕ → Bool
is_tail length rest = word 1 (tail rest) == length && word 2 (tail rest) == from_le_bytes w32 (codes "BlbE")

-- whether blocks begin and end as those of this package do
abbrev pub is_framed : ℕ → ℕ → Frame → Bool
is_framed n count f = is_head n count f.head && is_tail (word 3 f.head) f.rest

-- the blocks that a slot names
abbrev pub blocks_at : Slot → Units → Frame
blocks_at s file = record { head = unit_at file s.offset; rest = bytes_of (take (s.count - 1) (drop (s.offset + 1) file)) }

-- what stands in the blocks of this number's slot, and None where its framing is broken
abbrev pub frame_of : ℕ → Slot → Units → Option Frame
frame_of n s file = if is_framed n s.count (blocks_at s file) then Some (blocks_at s file) else None

-- a number's blob is framed like this: None where no slot has the number, Some None where the framing is broken
abbrev pub frames : Units → Store → ℕ → Option (Option Frame)
frames file store n = option_map (λ s. frame_of n s file) (slot_with n store.slots)

-- the bytes of a blob: they follow its head
abbrev pub blob_in : Frame → List ℕ
blob_in f = take (word 3 f.head) f.rest

-- the map of all numbers to their blobs, where None is a broken framing
unfoldable pub blobs : Units → Store → finite.FinMap nat_cmp (Option (List ℕ))
blobs file store = finite.from_entries
    (map (λ s. (s.number, option_map blob_in (frame_of s.number s file))) (filter is_used store.slots))
