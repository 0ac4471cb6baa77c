use Rattle.std.proofs.Common.{sym, subst, arith, rules}
use Rattle.rpm_hindex.proofs.Vocabulary.{changes_then, Idx, IsSame, Torn, units_of}
use Rattle.rpm_hindex.proofs.parts.write_synced.Goals as goal

pub returns-clause-writes : goal.returns-clause-writes
returns-clause-writes g c = record {
  changes =
      let R = Torn c.args.unit (units_of c.args.bytes.now) in
      changes_then _ Idx g.met.D.Disk.follows_trans R IsSame R 0 0 0 c.args.disk.now c.write_units.new.disk c.sync.new.disk (omega arith)
      (λ x y r. r) (λ x y z r is. subst (R x) (sym is) r) c.in_ok-write_units.ensures.writes.changes c.sync.ensures.writes.changes;
  cause = search rules;
}
