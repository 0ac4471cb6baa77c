-- What a batch says of an erasure.
use Rattle.std.proofs.Common.{ℕ, Option, Some, None}
use Rattle.rpm_change.proofs.Vocabulary.{ChangeFault, Halt, halt_of, IsOfIndex, WholeCause}
use Rattle.rpm_change.specs.Adding.{IsOfPutting}
use Rattle.rpm_change.specs.Erasing.{IsOfErasing}
use Rattle.rpm_change.specs.Rebuilding.{IsOfRebuilding}
use Rattle.rpm_db.specs.Refusals as db
use Rattle.rpm_db.specs.declared.change_fault.ChangeFault.TheVariants as fault
use Rattle.rpm_effects.specs.declared.tally.Halt.TheVariants as halt

pub kind_of_erasing : (f : ChangeFault) → db.IsOfStoreErasing f → IsOfErasing (halt_of f)
kind_of_erasing fault.NoSuch kind = tt
kind_of_erasing fault.GenerationSpent kind = tt
kind_of_erasing fault.DiskFault kind = tt
kind_of_erasing fault.NoMemory kind = tt
kind_of_erasing others kind = absurd kind

pub kind_of_index : (f : ChangeFault) → IsOfIndex f → IsOfErasing (halt_of f)
kind_of_index (fault.IndexFull needed) kind = tt
kind_of_index (fault.BadIndex unit) kind = tt
kind_of_index fault.DiskFault kind = tt
kind_of_index fault.NoMemory kind = tt
kind_of_index others kind = absurd kind

-- the index isn't asked
pub erasing_whole : (f : ChangeFault) → db.IsOfStoreErasing f → WholeCause f
erasing_whole (fault.BadIndex unit) kind = absurd kind
erasing_whole others kind = tt

-- what an erasure has may stop a file too
pub erasing_puts : (number : Option ℕ) (h : Halt) → IsOfErasing h → IsOfPutting number h
erasing_puts number halt.NumbersSpent kind = absurd kind
erasing_puts number halt.OutFault kind = absurd kind
erasing_puts None others kind = tt
erasing_puts (Some n) others kind = tt

pub index_rebuilds : (f : ChangeFault) → IsOfIndex f → IsOfRebuilding (halt_of f)
index_rebuilds (fault.IndexFull needed) kind = tt
index_rebuilds (fault.BadIndex unit) kind = tt
index_rebuilds fault.DiskFault kind = tt
index_rebuilds fault.NoMemory kind = tt
index_rebuilds others kind = absurd kind
