use Rattle.rpm_select.proofs.Vocabulary.{package_cost, looks_none, packages, Pkg, store_of}
use Rattle.std.proofs.Common.{None, arith}
use Rattle.std.specs.FinMap as finite
use Rattle.rpm_select.proofs.Asks.{asks_done}
use Rattle.rpm_select.proofs.Elsewhere.{one_elsewhere}
use Rattle.rpm_select.proofs.picked.pick.Goals as goal

pub returns-then-is_elsewhere-clause-told : goal.returns-then-is_elsewhere-clause-told
returns-then-is_elsewhere-clause-told g c = λ told.
    one_elsewhere c.args.selection.now c.args.number c.if-is_elsewhere.ensures
    (finite.get (packages (g.D.Disk.files c.args.disk.now).pkg (store_of c.args.db.now)) c.args.number)

pub returns-then-is_elsewhere-clause-asks : goal.returns-then-is_elsewhere-clause-asks
returns-then-is_elsewhere-clause-asks g c =
    let db = c.args.db.now in
    let here = c.args.disk.now in
    let nothing = looks_none g.D.Disk Pkg
    g.met.D.Disk.follows_refl here in
    asks_done g.D.Disk 0 (package_cost c.args.number db) here here db None (omega arith) c.requires.keeps nothing (omega arith)
