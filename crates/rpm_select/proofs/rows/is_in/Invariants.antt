use Rattle.std.proofs.Common.{◌≡◌, length}
use Rattle.rpm_select.proofs.Vocabulary.{is_text_among}
use Rattle.rpm_select.proofs.rows.is_in.Given as goal

abbrev pub invariant-loop-text : goal.invariant-loop-text
invariant-loop-text l = is_text_among l.wanted l.left ≡ is_text_among l.wanted l.texts

abbrev pub decreases-loop-text : goal.decreases-loop-text
decreases-loop-text l = length l.left
