-- What a report answers, and what it reads.
use Rattle.std.specs.Prelude.{◌≡◌, ℕ, ◌≤◌, List, Bool, true, false, IsTrue, Result, Ok, Err}
use Rattle.rpm_outside.specs.declared.disk.Disk as disk
use Rattle.rpm_outside.specs.declared.disk.File.{File}
use Rattle.rpm_outside.specs.declared.disk.File.TheVariants.{Log}
use Rattle.rpm_outside.specs.Crash.{IsUntouched}
use Rattle.rpm_outside.specs.Files.{Units}
use Rattle.rpm_tags.specs.declared.kind.Kind.{Kind}
use Rattle.rpm_tags.specs.Kinds.{code_of}
use Rattle.rpm_db.specs.Answers.{key_chain}
use Rattle.rpm_check.specs.declared.faults.CheckFault.{CheckFault}
use Rattle.rpm_check.specs.declared.faults.CheckFault.TheVariants.{BadIndex, DiskFault, NoMemory}

-- the fault of the chain of some key
abbrev pub IsFaultOfSome : Units → ℕ → Type 0
IsFaultOfSome idx unit = (kind : Kind) × (key : List ℕ) × (key_chain (code_of kind) key idx ≡ Err unit)

-- an index is said to be broken only by that
abbrev pub IsBroken : Units → CheckFault → Type 0
IsBroken idx (BadIndex unit) = IsFaultOfSome idx unit
IsBroken idx DiskFault = Unit {0}
IsBroken idx NoMemory = Unit {0}

-- an index is said to be broken
abbrev pub is_index_fault : CheckFault → Bool
is_index_fault (BadIndex unit) = true
is_index_fault DiskFault = false
is_index_fault NoMemory = false

-- a call answers that
abbrev pub is_broken_index : {X : Type 0} → Result X CheckFault → Bool
is_broken_index (Ok x) = false
is_broken_index (Err fault) = is_index_fault fault

-- the files, their images and the moment stay, and of Hlog.db nothing is read
pub record OnlyReadsBoth {D : Type 0} (g : disk.Ghosts D) (old new : D) : Type 0 where
  pub untouched : IsTrue g.tells → IsUntouched (g.files old) (g.files new) (g.left_since old) (g.left_since new)
  pub moment_stays : g.moment new ≡ g.moment old
  pub no_less : (f : File) → g.bytes_read old f ≤ g.bytes_read new f
  pub log : g.bytes_read new Log ≤ g.bytes_read old Log
  pub goes_on : g.follows old new
