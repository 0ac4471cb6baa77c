use Rattle.rpm_file.proofs.Vocabulary.{browses_then}
use Rattle.rpm_file.proofs.filling.fill_upto.Goals as goal

pub returns-in_err-count-clause-browses : goal.returns-in_err-count-clause-browses
returns-in_err-count-clause-browses g c = browses_then g.S.Shelf
    c.args.shelf.now c.loop-done.shelf c.fill_some.new.shelf c.loop-done.invariant.browses c.fill_some.ensures.browses
