use Rattle.std.proofs.Common.{◌≡◌, drop}
use Rattle.rpm_tags.proofs.Vocabulary.{as_table, name_in}
use Rattle.rpm_tags.proofs.tag.name_in.Given as goal

abbrev pub invariant-loop-row : goal.invariant-loop-row
invariant-loop-row l = name_in (as_table (drop l.row-index l.rows)) l.tag ≡ name_in (as_table l.rows) l.tag
