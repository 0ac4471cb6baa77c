-- A header that can't be taken from a list.
use Rattle.std.proofs.Common.{◌≡◌, Some, None, Result, Err, refl, inl, inr}
use Rattle.rpm_change.proofs.Vocabulary.{Halt, IsListFault, ListFault, HaltOfList}
use Rattle.rpm_file.specs.declared.fault.ListFault.TheVariants as list
use Rattle.rpm_effects.specs.declared.tally.Halt.TheVariants as halt
use Rattle.rpm_change.proofs.Stops.{IsOfReading}

-- it has a line
pub of_list : {X : Type 0} (head : Result X ListFault) (fault : ListFault) → HaltOfList fault None → IsListFault head fault → head ≡ Err fault
of_list head list.ReadFault stop is = absurd cc
of_list head list.NoMemory stop is = absurd cc
of_list head others stop is = is

-- or the command stops
pub stop_is : (fault : ListFault) (h : Halt) → HaltOfList fault (Some h) → IsOfReading h × (h ≡ halt.ShelfFault → fault ≡ list.ReadFault)
stop_is list.ReadFault h is = (inl (cc), λ same. refl)
stop_is list.NoMemory h is = (inr (cc), λ same. absurd cc)
stop_is others h is = absurd cc
