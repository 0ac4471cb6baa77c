use Rattle.std.proofs.Common.{sym}
use Rattle.rpm_pkgdb.proofs.Vocabulary.{get, nat_cmp}
use Rattle.rpm_pkgdb.proofs.Known.{overlaps_none, overlaps_some}
use Rattle.rpm_pkgdb.proofs.table.Opening.overlaps.Goals as goal

pub returns-in-None : goal.returns-in-None
returns-in-None c =
    sym (overlaps_none (λ q. get nat_cmp c.args.self.now.ranges q) c.args.self.now.slots.items c.args.slot c.requires.known.ranges c.in-None.ensures)

pub returns-in-Some : goal.returns-in-Some
returns-in-Some c =
    let e =
    overlaps_some (λ q. get nat_cmp c.args.self.now.ranges q) c.args.self.now.slots.items c.args.slot c.in-Some.end c.requires.known.ranges
    c.in-Some.ensures in
    sym e
