use Rattle.std.proofs.Common.{arith, rules}
use Rattle.rpm_hindex.proofs.Vocabulary.{changes_weaker, Idx, SameSeal}
use Rattle.rpm_hindex.proofs.TornWrites.{torn_behind}
use Rattle.rpm_hindex.proofs.writes.write_patch.Goals as goal

pub returns-clause-writes : goal.returns-clause-writes
returns-clause-writes g c = record {
  changes =
      changes_weaker _ Idx _ SameSeal 0 0 _ _ (omega arith) (λ a b t. torn_behind c.args.patch.unit _ a b
      c.requires.behind t) c.write_units.ensures.writes.changes;
  cause = search rules;
}
