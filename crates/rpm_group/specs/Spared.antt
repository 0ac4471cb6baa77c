-- How the reads of an overlay are counted: by the disk below where it is asked, and else by the overlay.
use Rattle.std.specs.Prelude.{ℕ, ◌+◌, ◌≤◌}
use Rattle.rpm_outside.specs.declared.disk.Disk as disk
use Rattle.rpm_outside.specs.declared.disk.File.{File}
use Rattle.rpm_outside.specs.declared.disk.File.TheVariants.{Pkg, Idx, Log}
use Rattle.rpm_outside.specs.Causes.{RoseBy}
use Rattle.rpm_outside.specs.Crash.{bytes_for}
use Rattle.rpm_group.specs.declared.spared.Spared.{Spared}

-- the bytes that were read of a file without the disk below
abbrev pub spared_of : Spared → File → ℕ
spared_of spared Pkg = spared.pkg
spared_of spared Idx = spared.idx
spared_of spared Log = spared.log

-- a read of so many bytes of a file was counted once: as spared as far as the disk below didn't count it
pub record CountsRead {D : Type 0} (d : disk.Ghosts D) (file : File) (bytes : ℕ) (old new : D)
    (so sn : Spared) : Type 0 where
  pub rose : (f : File) → RoseBy (d.bytes_read old f + spared_of so f) (bytes_for file f bytes)
      (d.bytes_read new f + spared_of sn f)
  pub later : (f : File) → spared_of so f ≤ spared_of sn f
