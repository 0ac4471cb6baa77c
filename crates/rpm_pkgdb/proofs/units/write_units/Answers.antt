use Rattle.rpm_pkgdb.proofs.Vocabulary.{changes_write, Pkg, units_of}
use Rattle.rpm_pkgdb.proofs.units.write_units.Goals as goal

pub returns-clause-writes : goal.returns-clause-writes
returns-clause-writes g c =
    let w = c.write_at.ensures in
    record {
      changes = changes_write _ Pkg c.args.at (units_of c.args.bytes.now) c.args.disk.now c.write_at.new.self w.torn w.images w.time w.reads
          w.follows;
      cause = w.cause;
    }
