-- What stands around a call that takes a disk: the disk by the ghost members of its kind, which a clause names
-- `D.Disk`. Short words for all clauses.
use Rattle.std.specs.Prelude.{ℕ, ◌-◌, Result}
use Rattle.rpm_outside.specs.declared.disk.Disk as disk
use Rattle.rpm_outside.specs.declared.disk.File.{File}
use Rattle.rpm_outside.specs.Causes.{HasCause, HasCauseAt}
use Rattle.rpm_outside.specs.Changed as changed
use Rattle.rpm_outside.specs.Changes as changes
use Rattle.rpm_outside.specs.Files.{Units, Files}
use Rattle.rpm_outside.specs.Leaves as leaves
use Rattle.rpm_outside.specs.Looks as looks

module _ {D : Type 0} (d : disk.Ghosts D) where
  -- the images that a crash from now on may leave
  abbrev pub images : D → Files → Type 0
  images it = d.left_since it (d.moment it)

  -- each of them has this file as it reads
  abbrev pub IsDurable : File → D → Type 0
  IsDurable file it = changes.IsDurable file (d.files it) (d.left_since it (d.moment it))

  -- a call read at most so many bytes of a file, and did nothing else
  abbrev pub OnlyReads : File → ℕ → D → D → Type 0
  OnlyReads = looks.OnlyReads d

  -- one file was read, and nothing else happened
  abbrev pub OnlyReadsFile : File → D → D → Type 0
  OnlyReadsFile = looks.OnlyReadsFile d

  -- one file alone changed, as a relation says, and so many bytes of it were read at most
  abbrev pub Changes : File → (Units → Units → Type 0) → ℕ → D → D → Type 0
  Changes = changes.Changes d

  -- a crash since then leaves files of which this holds
  abbrev pub CrashLeaves : D → D → (Files → Type 0) → Type 0
  CrashLeaves = leaves.CrashLeavesOnly d

  -- each image is one from before, or one from before that changed within this range of a file
  abbrev pub CrashChanges : File → ℕ → ℕ → D → D → Type 0
  CrashChanges = changed.CrashChanges d

  -- an answer that comes only where the disk counted a fault
  abbrev pub DiskFault : Type 0 → D → D → Type 0
  DiskFault what old new = HasCauseAt what (d.faults old) (d.faults new)

  -- an error comes only where it did
  abbrev pub DiskCause : {T E : Type 0} → Result T E → D → D → Type 0
  DiskCause result old new = HasCause (d.faults old) (d.faults new) result

  -- a call read at most so many bytes of a file and did nothing else, and an error comes only where the disk counted
  -- a fault
  pub record ReadsOnly {T E : Type 0} (file : File) (most : ℕ) (result : Result T E) (old new : D) : Type 0 where
    pub looks : OnlyReads file most old new
    pub cause : DiskCause result old new

  -- a call read at most so many bytes of a file and did nothing else, and this answer comes only where the disk
  -- counted a fault
  pub record ReadsOr (file : File) (most : ℕ) (what : Type 0) (old new : D) : Type 0 where
    pub looks : OnlyReads file most old new
    pub cause : DiskFault what old new

  -- one file was read, no matter how much, nothing else happened, and an error comes only where the disk counted a
  -- fault
  abbrev pub ReadsAt : {T E : Type 0} → File → Result T E → D → D → Type 0
  ReadsAt file result old new = ReadsOnly file (d.bytes_read new file - d.bytes_read old file) result old new

  -- a call read of one file alone, any number of bytes, and this answer comes only where the disk counted a fault
  abbrev pub ReadsAtOr : File → Type 0 → D → D → Type 0
  ReadsAtOr file what old new = ReadsOr file (d.bytes_read new file - d.bytes_read old file) what old new

  -- one file alone changed, as a relation says, so many bytes of it were read at most, and an error comes only where
  -- the disk counted a fault
  pub record Writes {T E : Type 0} (file : File) (by : Units → Units → Type 0) (most : ℕ) (result : Result T E)
      (old new : D) : Type 0 where
    pub changes : Changes file by most old new
    pub cause : DiskCause result old new

  -- a call changed a file by this relation, and this answer comes only where the disk counted a fault
  pub record WritesOr (file : File) (by : Units → Units → Type 0) (most : ℕ) (what : Type 0)
      (old new : D) : Type 0 where
    pub changes : Changes file by most old new
    pub cause : DiskFault what old new
