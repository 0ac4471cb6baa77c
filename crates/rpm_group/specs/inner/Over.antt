-- A read of units over those below.
use Rattle.std.specs.Prelude.{◌≡◌, ℕ, ◌/◌, List, take, drop, IsTrue, OnOk, Result}
use Rattle.rpm_outside.specs.declared.disk.Disk as disk
use Rattle.rpm_outside.specs.declared.disk.File.{File}
use Rattle.rpm_outside.specs.declared.failed.Failed.{Failed}
use Rattle.rpm_outside.specs.Files.{file_of, units_of}
use Rattle.rpm_outside.specs.Frame.{ReadsOnly}
use Rattle.rpm_group.specs.declared.layers.Layers.{Layers}
use Rattle.rpm_group.specs.declared.spared.Spared.{Spared}
use Rattle.rpm_group.specs.Layers.{laid_files}
use Rattle.rpm_group.specs.Spared.{CountsRead}

module _ {D : Type 0} (d : disk.Ghosts D) where
  -- the units are those of the file under what is held, and each of their bytes counts once
  pub record ReadsOver (layers : Layers) (file : File) (unit : ℕ) (bytes : ℕ) (after : List ℕ)
      (result : Result (Unit {0}) Failed) (old new : D)
      (so sn : Spared) : Type 0 where
    pub units : OnOk result (IsTrue d.tells → units_of after
        ≡ take (bytes / 16) (drop unit (file_of file (laid_files layers (d.files old)))))
    pub counts : CountsRead d file bytes old new so sn
    pub reads : ReadsOnly d file bytes result old new
