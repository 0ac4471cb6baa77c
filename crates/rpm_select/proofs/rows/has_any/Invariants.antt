use Rattle.std.proofs.Common.{◌≡◌, length}
use Rattle.rpm_select.proofs.Vocabulary.{has_any, list_any, meets_capability}
use Rattle.rpm_select.proofs.rows.has_any.Given as goal

abbrev pub invariant-loop-needed : goal.invariant-loop-needed
invariant-loop-needed l = list_any (meets_capability l.capability) l.left ≡ has_any l.fn.tags l.capability l.fn.view

abbrev pub decreases-loop-needed : goal.decreases-loop-needed
decreases-loop-needed l = length l.left
