use Rattle.std.proofs.Common.{rules}
use Rattle.rpm_hindex.proofs.Vocabulary.{changes_write, Idx}
use Rattle.rpm_hindex.proofs.parts.write_units.Goals as goal

pub returns-clause-writes : goal.returns-clause-writes
returns-clause-writes g c = record {
  changes = let e = c.write_at.ensures in changes_write _ Idx _ _ _ _ e.torn e.images e.time e.reads e.follows;
  cause = search rules;
}
