-- What stands around a call that takes a disk, by the ghost members of its kind: beside the words of `rpm_outside`,
-- those of a transaction.
use Rattle.std.specs.Prelude.{Result}
use Rattle.rpm_outside.specs.declared.disk.Disk as disk
use Rattle.rpm_outside.specs.Frame as frame
use Rattle.rpm_group.specs.Transactions as groups
use Rattle.rpm_group.specs.laws.LogReads as reads

module _ {D : Type 0} (d : disk.Ghosts D) where
  -- a call read nothing of the other files than the log
  abbrev pub ReadsLog : D → D → Type 0
  ReadsLog = reads.ReadsLog d

  -- a call read nothing of the other files than the log, and an error comes only where the disk counted a fault
  pub record OnlyReadsLog {T E : Type 0} (result : Result T E) (old new : D) : Type 0 where
    pub log : ReadsLog old new
    pub cause : frame.DiskCause d result old new

  -- a call read nothing of the other files than the log, and this answer comes only where the disk counted a fault
  pub record OnlyReadsLogOr (what : Type 0) (old new : D) : Type 0 where
    pub log : ReadsLog old new
    pub cause : frame.DiskFault d what old new

  -- nothing was read, and an error comes only where the disk counted a fault
  pub record ReadsNothing {T E : Type 0} (result : Result T E) (old new : D) : Type 0 where
    pub nothing : reads.ReadsNothing d old new
    pub cause : frame.DiskCause d result old new

  -- nothing at all happened
  abbrev pub Unwritten : D → D → Type 0
  Unwritten = groups.Unwritten d
