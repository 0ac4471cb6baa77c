use Rattle.std.proofs.Common.{◌≡◌, drop}
use Rattle.rpm_qfparse.proofs.Vocabulary.{bare_rows, show_in}
use Rattle.rpm_qfparse.proofs.tag.show_in.Given as goal

abbrev pub invariant-loop-row : goal.invariant-loop-row
invariant-loop-row l = show_in (bare_rows (drop l.row-index l.rows)) l.name ≡ show_in (bare_rows l.rows) l.name
