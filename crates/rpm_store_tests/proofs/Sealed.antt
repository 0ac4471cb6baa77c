-- An index that is sealed.
use Rattle.std.proofs.Common.{◌≡◌, true, ℕ, eqb}
use Rattle.std.proofs.lemmas.Bool.{and_parts}
use Rattle.rpm_hindex.specs.State.{IndexState, sealed_generation, is_in_order, is_current}

-- one that is current at a generation is in order
pub current_in_order : (generation : ℕ) (s : IndexState) → is_current generation s ≡ true → is_in_order s ≡ true
unfolding is_current
current_in_order generation s p = (and_parts (eqb (sealed_generation s.first) generation) (is_in_order s) p).1
