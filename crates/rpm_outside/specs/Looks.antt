-- What a run of calls does that only reads.
use Rattle.std.specs.Prelude.{IsTrue, ◌≡◌, ◌≤◌, ◌+◌, ◌-◌, ℕ}
use Rattle.rpm_outside.specs.declared.disk.Disk as disk
use Rattle.rpm_outside.specs.declared.disk.File.{File}
use Rattle.rpm_outside.specs.declared.disk.File.TheVariants.{Pkg, Idx, Log}
use Rattle.rpm_outside.specs.Crash.{IsUntouched, bytes_for}

-- a call read at most so many bytes more of this file, and none of another
pub record ReadAtMost (file : File) (most : ℕ) (old new : File → ℕ) : Type 0 where
  pub no_less : (f : File) → old f ≤ new f
  pub pkg : new Pkg ≤ old Pkg + bytes_for file Pkg most
  pub idx : new Idx ≤ old Idx + bytes_for file Idx most
  pub log : new Log ≤ old Log + bytes_for file Log most

-- the files, their images and the moment stay, of this file at most so many bytes are read and of another none
pub record OnlyReads {D : Type 0} (g : disk.Ghosts D) (file : File) (most : ℕ) (old new : D) : Type 0 where
  pub untouched : IsTrue g.tells → IsUntouched (g.files old) (g.files new) (g.left_since old) (g.left_since new)
  pub moment_stays : g.moment new ≡ g.moment old
  pub reads : ReadAtMost file most (g.bytes_read old) (g.bytes_read new)
  pub goes_on : g.follows old new

module _ {D : Type 0} (g : disk.Ghosts D) where
  -- a call read of this file alone, no matter how much, and did nothing else
  abbrev pub OnlyReadsFile : File → D → D → Type 0
  OnlyReadsFile file old new = OnlyReads g file (g.bytes_read new file - g.bytes_read old file) old new
