-- What an overlay is made of.
use Rattle.std.specs.Prelude.{◌≡◌, ℕ, ◌+◌, List, Bool, true, false}
use Rattle.rpm_outside.specs.Calls.{Call, Len, Read, Write, Sync}
use Rattle.rpm_outside.specs.Causes.{Rose}
use Rattle.rpm_outside.specs.declared.disk.Disk as disk
use Rattle.rpm_outside.specs.declared.disk.File.{File}
use Rattle.rpm_outside.specs.Files.{Files, file_of, with_file, units_of, with_units}
use Rattle.rpm_group.specs.declared.layers.Layers.{Layers}
use Rattle.rpm_group.specs.declared.overlay.Overlay.{Overlay}
use Rattle.rpm_group.specs.Layers.{laid_files}
use Rattle.rpm_group.specs.Spared.{spared_of}

-- the bytes that were read of a file: of the disk below, and without it
abbrev pub overlay_read : {D : Type 0} → disk.Ghosts D → Overlay D → File → ℕ
overlay_read d it file = d.bytes_read it.below file + spared_of it.spared file

-- the disk below
abbrev pub overlay_below : {D : Type 0} → Overlay D → D
overlay_below it = it.below

-- what is held
abbrev pub overlay_held : {D : Type 0} → Overlay D → Layers
overlay_held it = it.held

-- how many writes found no memory
abbrev pub overlay_starved : {D : Type 0} → Overlay D → ℕ
overlay_starved it = it.starved

-- an overlay over this disk that holds this, and on which nothing was done
pub record IsOver {D : Type 0} (below : D) (held : Layers) (it : Overlay D) : Type 0 where
  pub below_is : it.below ≡ below
  pub held_is : it.held ≡ held
  pub starved : it.starved ≡ 0
  pub moment : it.moment ≡ 0
  pub spared : (file : File) → spared_of it.spared file ≡ 0

-- each file reads under what is held as it did before
abbrev pub HoldsSame : {D : Type 0} → Overlay D → Overlay D → Type 0
HoldsSame old new = (files : Files) → laid_files new.held files ≡ laid_files old.held files

-- each file reads under what is held with the units of a write in it
abbrev pub HoldsWrite : {D : Type 0} → File → ℕ → List ℕ → Overlay D → Overlay D → Type 0
HoldsWrite file unit bytes old new =
    (files : Files) → laid_files new.held files ≡ with_file file
    (with_units unit (units_of bytes) (file_of file (laid_files old.held files)))
    (laid_files old.held files)

-- a write that fails counts as starved and leaves the units as they were, a sync never fails, and both leave the disk
-- below
abbrev pub StarvesOrHolds : {D : Type 0} → Overlay D → Call → Bool → Overlay D → Type 0
StarvesOrHolds old (Write file unit bytes) true new = Rose old.starved new.starved × HoldsSame old new
    × (new.below ≡ old.below)
StarvesOrHolds old (Write file unit bytes) false new =
    (new.starved ≡ old.starved) × HoldsWrite file unit bytes old new × (new.below ≡ old.below)
StarvesOrHolds old (Len file) failed new = (new.starved ≡ old.starved) × HoldsSame old new
StarvesOrHolds old (Read file unit count) failed new = (new.starved ≡ old.starved) × HoldsSame old new
StarvesOrHolds old (Sync file) failed new = (failed ≡ false) × (new.starved ≡ old.starved) × HoldsSame old new
    × (new.below ≡ old.below)
