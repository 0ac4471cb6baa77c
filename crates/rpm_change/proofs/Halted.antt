-- Each fault of a change that is refused stops the command.
use Rattle.std.proofs.Common.{◌≡◌, ℕ, true, false, Err, sym, ◌∙◌}
use Rattle.rpm_change.proofs.Vocabulary.{ChangeFault, Database, IsOfIndex}
use Rattle.rpm_change.specs.Halting.{IsHalting}
use Rattle.rpm_db.specs.Database.{holds}
use Rattle.rpm_db.specs.Rebuilds.{RebuildIs}
use Rattle.rpm_db.specs.Refusals.{EraseCause}
use Rattle.rpm_db.specs.declared.change_fault.ChangeFault.TheVariants as fault

pub index_halts : (f : ChangeFault) → IsOfIndex f → IsHalting f
index_halts (fault.IndexFull needed) kind = tt
index_halts (fault.BadIndex unit) kind = tt
index_halts fault.DiskFault kind = tt
index_halts fault.NoMemory kind = tt
index_halts others kind = absurd kind

-- the index is made anew
pub rebuild_halts : (db : Database) → db.stopped ≡ false → (f : ChangeFault) → RebuildIs db (Err f) → IsHalting f
rebuild_halts db going fault.Stopped cause = let wrong : true ≡ false = sym cause ∙ going in absurd cc
rebuild_halts db going (fault.IndexFull needed) cause = tt
rebuild_halts db going fault.DiskFault cause = tt
rebuild_halts db going fault.NoMemory cause = tt
rebuild_halts db going others cause = absurd cause

-- a package is there
pub erase_halts : (db : Database) → db.stopped ≡ false → (n : ℕ) → holds n db ≡ true → (f : ChangeFault) → EraseCause db n f → IsHalting f
erase_halts db going n held (fault.BadHeader why) cause = cause.2
erase_halts db going n held fault.Stopped cause = let wrong = sym going ∙ cause in absurd cc
erase_halts db going n held fault.NoSuch cause = let wrong = sym held ∙ cause.1 in absurd cc
erase_halts db going n held others cause = tt
