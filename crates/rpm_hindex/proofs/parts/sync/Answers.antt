use Rattle.std.proofs.Common.{refl, rules}
use Rattle.rpm_hindex.proofs.Vocabulary.{changes_sync, Idx, IsSame}
use Rattle.rpm_hindex.proofs.parts.sync.Goals as goal

pub returns-clause-writes : goal.returns-clause-writes
returns-clause-writes g c = record {
  changes = let e = c.sync.ensures in changes_sync _ Idx IsSame (λ x. refl) _ _ e.same e.images e.time e.reads e.follows;
  cause = search rules;
}
