-- What stands around a call: a disk, a shelf, two sinks and a database, each by the ghost members of its kind, which a
-- clause names `D.Disk`, `S.Shelf`, `O.Sink`. Short words for all clauses; of them `images`, `pkg_read` and
-- `OnlyReadsPackages` stand on the page (`rpm_tool`, Theorem.antt).
use Rattle.std.specs.Prelude.{◌≡◌, ◌≢◌, ℕ, ◌≤◌, Bool, true, false, Result, Err, IfErr, IsTrue}
use Rattle.rpm_outside.specs.declared.disk.Disk as disk
use Rattle.rpm_outside.specs.declared.disk.File.{File}
use Rattle.rpm_outside.specs.declared.disk.File.TheVariants.{Pkg, Idx, Log}
use Rattle.rpm_outside.specs.Crash.{IsUntouched}
use Rattle.rpm_outside.specs.declared.sink.Sink as sink
use Rattle.rpm_outside.specs.declared.buffered.Buffered.{Buffered}
use Rattle.rpm_effects.specs.Hands.{Hand}
use Rattle.rpm_effects.specs.declared.tally.Halt.{Halt}
use Rattle.rpm_effects.specs.declared.tally.Halt.TheVariants as halt
use Rattle.rpm_effects.specs.Classes.{IsOfPrint, IsOfRead}
use Rattle.rpm_outside.specs.Frame.{DiskFault}

-- ---- a disk

module _ {D : Type 0} (d : disk.Ghosts D) where
  -- the bytes of Packages.db that were read
  abbrev pub pkg_read : D → ℕ
  pkg_read it = d.bytes_read it Pkg

  -- the files, their images and the moment stay; of Hlog.db nothing is read, and of Hindex.db only where an index is
  -- asked
  pub record OnlyReadsIndexed (indexed : Bool) (old new : D) : Type 0 where
    pub untouched : IsTrue d.tells → IsUntouched (d.files old) (d.files new) (d.left_since old) (d.left_since new)
    pub moment_stays : d.moment new ≡ d.moment old
    pub no_less : (f : File) → d.bytes_read old f ≤ d.bytes_read new f
    pub idx : indexed ≡ false → d.bytes_read new Idx ≤ d.bytes_read old Idx
    pub log : d.bytes_read new Log ≤ d.bytes_read old Log
    pub goes_on : d.follows old new

  -- a command that writes nothing: the files, their images and the moment stay, and nothing of Hindex.db is read
  pub record OnlyReadsPackages (old new : D) : Type 0 where
    pub untouched : IsTrue d.tells → IsUntouched (d.files old) (d.files new) (d.left_since old) (d.left_since new)
    pub moment_stays : d.moment new ≡ d.moment old
    pub index_unread : d.bytes_read new Idx ≤ d.bytes_read old Idx
    pub goes_on : d.follows old new

  -- a call only read packages: no sink halts it and no index, and a fault has its cause
  pub record ReadsBy {T : Type 0} (result : Result T Halt) (old new : D) : Type 0 where
    pub looks : OnlyReadsIndexed true old new
    pub class : IfErr result IsOfRead
    pub disk : DiskFault d (result ≡ Err halt.DiskFault) old new

  -- a call read the database, with its index, and wrote to one sink alone, whose fault is the first of these two
  pub record TellsTo {S T : Type 0} (s : sink.Ghosts S) (own other : Halt) (result : Result T Halt) (old new : D)
      (from to : Buffered S) : Type 0 where
    pub looks : OnlyReadsIndexed true old new
    pub class : IfErr result IsOfPrint
    pub no_other : result ≢ Err other
    pub disk : DiskFault d (result ≡ Err halt.DiskFault) old new
    pub hand : Hand s (result ≡ Err own) from to

  -- a call told something to out alone
  abbrev pub TellsOut : {O T : Type 0} → sink.Ghosts O → Result T Halt → D → D → Buffered O → Buffered O → Type 0
  TellsOut o = TellsTo o halt.OutFault halt.ErrFault

  abbrev pub TellsErr : {E T : Type 0} → sink.Ghosts E → Result T Halt → D → D → Buffered E → Buffered E → Type 0
  TellsErr e = TellsTo e halt.ErrFault halt.OutFault
