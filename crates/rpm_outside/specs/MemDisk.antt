-- What the disk in memory holds, and when a call fails.
use Rattle.std.specs.Prelude.{◌≡◌, ℕ, ◌+◌, ◌-◌, ◌^◌, ◌<◌, ◌≤◌, min, ◌⊎◌, Bool, true, false, ◌==◌, List, []}
use Rattle.std.specs.List.{list_any}
use Rattle.rpm_outside.specs.declared.steps.Step.{Step}
use Rattle.rpm_outside.specs.declared.mem_disk.MemDisk.{MemDisk}
use Rattle.rpm_outside.specs.declared.disk.File.{File}
use Rattle.rpm_outside.specs.declared.disk.File.TheVariants.{Pkg, Idx, Log}
use Rattle.rpm_outside.specs.Causes.{Rose, CountsFailures}
use Rattle.rpm_outside.specs.Files.{Files, units_of}
use Rattle.rpm_outside.specs.Calls.{Call, Write, Sync}
use Rattle.rpm_outside.specs.Past.{held_files, part_of, DidNothing, WroteAny, DurableOnce}

-- what a read gives
abbrev pub mem_files : MemDisk → Files
mem_files disk = held_files disk.held

-- the files at moment 0
abbrev pub mem_first : MemDisk → Files
mem_first disk = held_files disk.first

-- the writes and syncs since then
abbrev pub mem_steps : MemDisk → List Step
mem_steps disk = disk.steps.items

-- how often a call failed
abbrev pub mem_faults : MemDisk → ℕ
mem_faults disk = disk.faults

-- how often memory was wanting
abbrev pub mem_starved : MemDisk → ℕ
mem_starved disk = disk.starved

-- how many calls came
abbrev pub mem_calls : MemDisk → ℕ
mem_calls disk = disk.calls

-- the numbers of the calls that are to fail
abbrev pub mem_failing : MemDisk → List ℕ
mem_failing disk = disk.failing.items

-- the bytes that were read of a file
abbrev pub mem_read : MemDisk → File → ℕ
mem_read disk Pkg = disk.read_pkg
mem_read disk Idx = disk.read_idx
mem_read disk Log = disk.read_log

-- files that are durable, and nothing counted
pub record IsNew (disk : MemDisk) (begun : Files) : Type 0 where
  pub files : mem_files disk ≡ begun
  pub first : mem_first disk ≡ begun
  pub steps : mem_steps disk ≡ []
  pub failing : mem_failing disk ≡ []
  pub calls : mem_calls disk ≡ 0
  pub faults : mem_faults disk ≡ 0
  pub starved : mem_starved disk ≡ 0
  pub reads : (file : File) → mem_read disk file ≡ 0

-- all but the calls that are to fail
pub record SameButFailing (old new : MemDisk) : Type 0 where
  pub files : mem_files new ≡ mem_files old
  pub first : mem_first new ≡ mem_first old
  pub steps : mem_steps new ≡ mem_steps old
  pub calls : mem_calls new ≡ mem_calls old
  pub faults : mem_faults new ≡ mem_faults old
  pub starved : mem_starved new ≡ mem_starved old
  pub reads : (file : File) → mem_read new file ≡ mem_read old file

-- the calls are counted from 1, and the last one is among those that were named
abbrev pub is_named_call : MemDisk → Bool
is_named_call disk = list_any (λ call. call == mem_calls disk) (mem_failing disk)

-- what a call does: of a write the first half of its units, rounded down, or all of them; of any other call nothing, or
-- all
abbrev pub DiskDoes : Bool → Call → Files → Files → List Step → List Step → Type 0
DiskDoes half (Write file unit bytes) old new past steps =
    WroteAny old new past steps file unit (part_of half (units_of bytes))
DiskDoes false (Sync file) old new past steps = DurableOnce old new past steps file
DiskDoes half call old new past steps = DidNothing old new past steps

-- what a call of the disk in memory does, whole or by half
abbrev pub DiskDid : Bool → Call → MemDisk → MemDisk → Type 0
DiskDid half call old new = DiskDoes half call (mem_files old) (mem_files new) (mem_steps old) (mem_steps new)

-- memory was wanting, and nothing was done
pub record Starves (old new : MemDisk) : Type 0 where
  pub rose : Rose (mem_starved old) (mem_starved new)
  pub nothing : DidNothing (mem_files old) (mem_files new) (mem_steps old) (mem_steps new)

-- a call fails where it was named, or where memory was wanting, and nowhere else; and nothing else is done or kept than
-- what it asks for
pub record FailsWhereNamed (old : MemDisk) (call : Call) (failed : Bool) (new : MemDisk) : Type 0 where
  pub counted : mem_calls new ≡ min (mem_calls old + 1) (2 ^ 64 - 1)
  pub failing : mem_failing new ≡ mem_failing old
  pub first : mem_first new ≡ mem_first old
  pub faults : CountsFailures failed (mem_faults old) (mem_faults new)
  pub later : mem_starved old ≤ mem_starved new
  pub by_one : mem_starved new ≤ mem_starved old + 1
  pub named : is_named_call new ≡ true → failed ≡ true
  pub half : is_named_call new ≡ true → DiskDid true call old new ⊎ Starves old new
  pub whole : failed ≡ false → DiskDid false call old new
  pub starved : mem_starved old < mem_starved new → (failed ≡ true) × Starves old new
  pub cause : failed ≡ true → is_named_call new ≡ false → Starves old new
