use Rattle.rpm_check.proofs.Vocabulary.{flat_map, given_ranges, packages, store_of, any_version_of}
use Rattle.std.proofs.Common.{ap, ◌∙◌}
use Rattle.rpm_check.proofs.Offering.{offered_sorted}
use Rattle.rpm_check.proofs.Providing.{StandsFor, picks_are}
use Rattle.rpm_check.proofs.offers.offers_under.Goals as goal

pub returns-clause-told : goal.returns-clause-told
returns-clause-told g c = λ told has.
    let wanted = c.of_range-wanted in
    let name = c.args.name.now in
    let all = packages (g.D.Disk.files c.args.disk.now).pkg (store_of c.args.db.now) in
    let stands : StandsFor wanted.result (any_version_of name)
    = record { name = wanted.ensures.name; plain = wanted.ensures.plain; same = wanted.ensures.same } in
    offered_sorted all name c.sort_offers.new.offers.items c.in_ok-found.found.items
    (c.in_ok-found.ensures.told told has ∙ ap (flat_map (given_ranges name)) (picks_are wanted.result (any_version_of name) stands all))
    c.sort_offers.ensures.same c.sort_offers.ensures.sorted
