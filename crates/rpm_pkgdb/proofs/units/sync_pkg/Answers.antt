use Rattle.std.proofs.Common.{refl}
use Rattle.rpm_pkgdb.proofs.Vocabulary.{changes_sync, IsSame, Pkg}
use Rattle.rpm_pkgdb.proofs.units.sync_pkg.Goals as goal

pub returns-clause-writes : goal.returns-clause-writes
returns-clause-writes g c =
    let w = c.sync.ensures in
    record {
      changes = changes_sync _ Pkg IsSame (λ x. refl) c.args.disk.now c.sync.new.self w.same w.images w.time w.reads w.follows;
      cause = w.cause;
    }
