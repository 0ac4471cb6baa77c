-- Faults of an index.
use Rattle.std.proofs.Common.{ℕ, List, [], ◌∷◌, inl, inr}
use Rattle.rpm_check.proofs.Vocabulary.{check_fault, IsBroken, IsFaultOfOne, IsFaultOfSome, Kind, PickFault, Units}
use Rattle.rpm_select.specs.declared.picked.PickFault.TheVariants as pick
use Rattle.rpm_select.specs.Reach as select

of_some : (keys : List (Kind × List ℕ)) (idx : Units) (unit : ℕ) → IsFaultOfOne keys idx unit → IsFaultOfSome idx unit
of_some [] idx unit none = absurd none
of_some ((kind, key) ∷ keys) idx unit some = elim some [ inl first ↦ (kind, key, first) | inr later ↦ of_some keys idx unit later ]

pub broken_from : (keys : List (Kind × List ℕ)) (idx : Units) (fault : PickFault) → select.IsBrokenChain keys idx fault → IsBroken idx (check_fault fault)
broken_from keys idx (pick.BadIndex unit) some = of_some keys idx unit some
broken_from keys idx pick.DiskFault any = tt
broken_from keys idx pick.NoMemory any = tt
