use Rattle.std.proofs.Common.{◌∙◌}
use Rattle.rpm_pkgdb.proofs.Vocabulary.{get, nat_cmp}
use Rattle.rpm_pkgdb.proofs.Known.{place_known}
use Rattle.rpm_pkgdb.proofs.table.Opening.has_number.Goals as goal

pub returns : goal.returns
returns c =
    c.contains_key.ensures ∙ place_known (λ q. get nat_cmp c.args.self.now.numbers q) c.args.self.now.slots.items
    (record { number = 0; offset = 0; count = 0 }) c.requires.places c.args.number
