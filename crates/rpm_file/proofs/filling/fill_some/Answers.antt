use Rattle.std.proofs.Common.{◌≤◌, ◌+◌, ◌-◌, length, take, drop, arith, length-drop}
use Rattle.std.proofs.lemmas.List.{length-take}
use Rattle.rpm_file.proofs.Filled.{of_ok, front_stays, arrived}
use Rattle.rpm_file.proofs.filling.fill_some.Goals as goal

pub returns-in-Ok-clause-extends : goal.returns-in-Ok-clause-extends
returns-in-Ok-clause-extends g c = λ told.
    let from = c.args.from in
    let more = c.args.more in
    let held = c.deref_mut.result.now in
    let ok = c.if-is_err.ensures.negation in
    let long = of_ok c.make_room.result _ ok c.make_room.ensures.long in
    let asked : length (take (from + more - from) (drop from held)) ≤ more =
    omega (arith, length-take (from + more - from) (drop from held), length-drop from held) in
    arrived (g.S.Shelf.rest c.args.shelf.now) (g.S.Shelf.rest c.fill.new.shelf) c.args.room.now.items held c.fill.new.into _ from _ c.in-Ok.count _
    (front_stays from c.args.room.now.len c.args.room.now.items c.make_room.new.room.items held c.requires.start
    (of_ok c.make_room.result _ ok c.make_room.ensures.kept) c.deref_mut.ensures.value)
    (omega (arith, long, c.deref_mut.ensures.len)) (omega (arith, c.in-Ok.ensures.within, c.fill.auto.into))
    (omega (arith, long, asked, c.in-Ok.ensures.within)) (c.in-Ok.ensures.fills told)
