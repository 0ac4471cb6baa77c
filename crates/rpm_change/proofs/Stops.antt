-- A command that a read stops.
use Rattle.std.proofs.Common.{◌≡◌, ◌⊎◌, inl, inr, Some}
use Rattle.rpm_change.proofs.Vocabulary.{FileFault, Halt, stop_in}
use Rattle.rpm_file.specs.declared.fault.FileFault.TheVariants as file
use Rattle.rpm_effects.specs.declared.tally.Halt.TheVariants as halt

-- a stop of reading: nothing was done
abbrev pub IsOfReading : Halt → Type 0
IsOfReading h = (h ≡ halt.ShelfFault) ⊎ (h ≡ halt.NoMemory)

pub stop_kind : (f : FileFault) (h : Halt) → stop_in f ≡ Some h → IsOfReading h
stop_kind file.ReadFault h is = inl (cc)
stop_kind file.NoMemory h is = inr (cc)
stop_kind others h is = absurd cc
