-- The parts of a proper tree are proper.
use Rattle.std.proofs.Common.{◌≡◌, ℕ, zero, suc, ◌+◌, Bool, Some, subst}
use Rattle.std.specs.Prelude.{slice_get}
use Rattle.rpm_qfeval.proofs.Vocabulary.{AreProper, Bracket, Condition, End, IsProper, Part, PartIsProper, parts_of_tree, Tagged, Text, Tree}
use Rattle.rpm_qfparse.specs.declared.tree.Part.TheVariants as part

module _ (in_bracket : Bool) (depth : ℕ) where
  same : (p q : Part) → Some p ≡ Some q → PartIsProper in_bracket p → PartIsProper in_bracket q
  same p q e h = let is : p ≡ q = cc in subst (PartIsProper in_bracket) is h

  proper_at : (t : Tree) (k : ℕ) (p : Part) → IsProper in_bracket depth t → slice_get (parts_of_tree t) k ≡ Some p → PartIsProper in_bracket p
  proper_at End k p h e = absurd cc
  proper_at (Text text rest) zero p h e = same (part.Text text) p e tt
  proper_at (Text text rest) (suc k) p h e = proper_at rest k p h.2 e
  proper_at (Tagged t rest) zero p h e = same (part.Tag t) p e tt
  proper_at (Tagged t rest) (suc k) p h e = proper_at rest k p h.1 e
  proper_at (Bracket inner rest) zero p h e = same (part.Bracket inner) p e (h.0, (depth, h.1))
  proper_at (Bracket inner rest) (suc k) p h e = proper_at rest k p h.2 e
  proper_at (Condition tag first second rest) zero p h e = same (part.Condition tag first second) p e ((depth + 1, h.1), (depth + 1, h.2))
  proper_at (Condition tag first second rest) (suc k) p h e = proper_at rest k p h.3 e

pub part_is_proper : (in_bracket : Bool) (t : Tree) (k : ℕ) (p : Part) → AreProper in_bracket t → slice_get (parts_of_tree t) k ≡ Some p
    → PartIsProper in_bracket p
part_is_proper in_bracket t k p h e = proper_at in_bracket h.0 t k p h.1 e
