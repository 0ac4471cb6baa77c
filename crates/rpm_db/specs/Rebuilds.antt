-- What making the index anew answers.
use Rattle.std.specs.Prelude.{◌≡◌, ◌⊎◌, IsTrue, ◌<◌, ◌≤◌, ◌^◌, true, false, Result, Ok, Err}
use Rattle.rpm_outside.specs.declared.disk.Disk as disk
use Rattle.rpm_outside.specs.declared.disk.File.TheVariants.{Pkg, Idx}
use Rattle.rpm_outside.specs.Changes.{IsDurable}
use Rattle.rpm_outside.specs.Files.{Files}
use Rattle.rpm_hindex.specs.Sizes.{units_for}
use Rattle.rpm_db.specs.declared.change_fault.ChangeFault.{ChangeFault}
use Rattle.rpm_db.specs.declared.change_fault.ChangeFault.TheVariants.{Stopped, IndexFull, DiskFault, NoMemory}
use Rattle.rpm_db.specs.Changes.{IsServing}
use Rattle.rpm_db.specs.Database.{Database, KeepsIndex, IsIndexed, generation_of, is_blank_database, is_indexed}
use Rattle.rpm_db.specs.Database.{store_of}
use Rattle.rpm_db.specs.Reaches.{ReachesMade}
use Rattle.rpm_db.specs.Rows.{rows}
use Rattle.rpm_db.specs.State.{packages}

-- after an answer but DiskFault: the files stay and so does the value, or the index is current and that of the packages
abbrev pub IsRebuilt : Files → Files → Database → Database → Result (Unit {0}) ChangeFault → Type 0
IsRebuilt old new before after (Ok done) =
    (units_for (rows (packages old.pkg (store_of before))) ≤ 2 ^ 28) × (after.stopped ≡ false)
    × KeepsIndex new.idx after × IsIndexed new.pkg new.idx after
IsRebuilt old new before after (Err (IndexFull needed)) =
    (new ≡ old) × (after ≡ before) × (2 ^ 28 < needed)
    × (needed ≡ units_for (rows (packages old.pkg (store_of before))))
IsRebuilt old new before after (Err NoMemory) = (new ≡ old) × (after ≡ before)
IsRebuilt old new before after (Err Stopped) = (new ≡ old) × (after ≡ before) × (before.stopped ≡ true)
IsRebuilt old new before after (Err DiskFault) = after.stopped ≡ true
IsRebuilt old new before after (Err _) = ⊥

-- a rebuild answers one of these causes: Stopped comes first, and there is no other but these
abbrev pub RebuildIs : Database → Result (Unit {0}) ChangeFault → Type 0
RebuildIs db (Ok done) = db.stopped ≡ false
RebuildIs db (Err Stopped) = db.stopped ≡ true
RebuildIs db (Err (IndexFull needed)) = db.stopped ≡ false
RebuildIs db (Err DiskFault) = db.stopped ≡ false
RebuildIs db (Err NoMemory) = db.stopped ≡ false
RebuildIs db (Err _) = ⊥

-- ---- what it leaves

module _ {D : Type 0} (d : disk.Ghosts D) where
  -- the index was made: the value can be changed, and both files are durable
  pub record IsRenewed (old new : D) (before after : Database) : Type 0 where
    pub going : after.stopped ≡ false
    pub serving : IsTrue d.tells → IsServing (d.files new) (d.left_since new (d.moment new)) after
    pub pkg : IsTrue d.tells → IsDurable Pkg (d.files new) (d.left_since new (d.moment new))
    pub durable : IsTrue d.tells → IsDurable Idx (d.files new) (d.left_since new (d.moment new))
    pub reach : IsTrue d.tells
        → ReachesMade (units_for (rows (packages (d.files old).pkg (store_of before))))
        (d.files old).idx (d.files new).idx

-- whatever it answers: the store stays, and the value is stopped by a fault of the disk alone
pub record IsStill (before after : Database) (result : Result (Unit {0}) ChangeFault) : Type 0 where
  pub store : store_of after ≡ store_of before
  pub generation : generation_of after ≡ generation_of before
  pub indexed : is_indexed after ≡ true
  pub not_blank : is_blank_database after ≡ false
  pub stopped : (after.stopped ≡ true → (before.stopped ≡ true) ⊎ (result ≡ Err DiskFault))
      × (result ≡ Err DiskFault → after.stopped ≡ true)
