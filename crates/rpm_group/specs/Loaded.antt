-- What is handed back by loading.
use Rattle.std.specs.Prelude.{◌≡◌, Result, Ok, Err}
use Rattle.rpm_outside.specs.declared.disk.File.{File}
use Rattle.rpm_outside.specs.Logs.{LogState}
use Rattle.rpm_group.specs.declared.load.LoadFault.{LoadFault}
use Rattle.rpm_group.specs.declared.load.LoadFault.TheVariants.{DiskFault}
use Rattle.rpm_group.specs.declared.load.LoadRefused.{LoadRefused}
use Rattle.rpm_group.specs.declared.overlay.Overlay.{Overlay}
use Rattle.rpm_group.specs.Spared.{spared_of}
use Rattle.rpm_group.specs.Loads.{LoadSays}

module _ {D : Type 0} where
  -- the disk, which is below an overlay or comes back
  abbrev pub disk_after : Result (Overlay D) (LoadRefused D) → D
  disk_after (Ok overlay) = overlay.below
  disk_after (Err refused) = refused.disk

  -- the answer without the disk
  abbrev pub answer_of : Result (Overlay D) (LoadRefused D) → Result (Unit {0}) LoadFault
  answer_of (Ok overlay) = Ok tt
  answer_of (Err refused) = Err refused.why

  -- loading ended with a fault of the disk
  abbrev pub IsDiskFault : Result (Overlay D) (LoadRefused D) → Type 0
  IsDiskFault result = answer_of result ≡ Err DiskFault

  -- what loading says, by the log that it found
  abbrev pub LoadedSays : LogState → Result (Overlay D) (LoadRefused D) → Type 0
  LoadedSays state result = LoadSays state (answer_of result)

  -- nothing was counted yet
  pub record IsLoaded (overlay : Overlay D) : Type 0 where
    pub starved : overlay.starved ≡ 0
    pub moment : overlay.moment ≡ 0
    pub spared : (file : File) → spared_of overlay.spared file ≡ 0
