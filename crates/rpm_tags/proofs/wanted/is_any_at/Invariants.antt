use Rattle.std.proofs.Common.{◌≡◌, length, drop}
use Rattle.rpm_tags.proofs.Vocabulary.{AreLeft, counts_for, file_names, list_any, zip}
use Rattle.rpm_tags.proofs.wanted.is_any_at.Given as goal

abbrev pub invariant-loop-text : goal.invariant-loop-text
invariant-loop-text l = record {
  same : list_any (counts_for l.path) (zip (file_names l.initial.directories (drop l.place l.indexes) l.left) l.left)
      ≡ list_any (counts_for l.path) (zip (file_names l.initial.directories l.indexes l.fn.bases) l.fn.bases);
  left : AreLeft l.initial.directories l.indexes l.left l.place;
  dirs : l.directories ≡ l.initial.directories;
}

abbrev pub decreases-loop-text : goal.decreases-loop-text
decreases-loop-text l = length l.left
