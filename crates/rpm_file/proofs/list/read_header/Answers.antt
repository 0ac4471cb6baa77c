use Rattle.rpm_file.proofs.Vocabulary.{browses_then, bytes_left}
use Rattle.rpm_file.proofs.Extents.{intro_alone, intro_then}
use Rattle.rpm_file.proofs.Listed.{behind_intro}
use Rattle.rpm_file.proofs.list.read_header.Goals as goal

pub returns-then-begins-clause-answers : goal.returns-then-begins-clause-answers
returns-then-begins-clause-answers g c = λ told.
    let old = g.S.Shelf.rest c.args.shelf.now in
    let mid = g.S.Shelf.rest c.take_intro.new.shelf in
    let intro = c.take_intro.new.intro in
    let taken = rw c.if-begins.true at c.in_ok-begins.ensures.answers told in
    behind_intro old mid (g.S.Shelf.rest c.read_behind.new.shelf) intro c.read_behind.new.room.items c.read_behind.result c.take_intro.auto.intro taken
    (c.read_behind.ensures.answers told)

pub returns-then-begins-clause-browses : goal.returns-then-begins-clause-browses
returns-then-begins-clause-browses g c = browses_then g.S.Shelf
    c.args.shelf.now c.take_intro.new.shelf c.read_behind.new.shelf c.take_intro.ensures.browses c.read_behind.ensures.browses

pub returns-then-begins-clause-extent : goal.returns-then-begins-clause-extent
returns-then-begins-clause-extent g c = λ told.
    let taken = rw c.if-begins.true at c.in_ok-begins.ensures.answers told in
    intro_then (g.S.Shelf.rest c.args.shelf.now) (g.S.Shelf.rest c.take_intro.new.shelf) (g.S.Shelf.rest c.read_behind.new.shelf)
    c.take_intro.new.intro c.take_intro.auto.intro taken (c.read_behind.ensures.extent told)

pub returns-in_err-begins-clause-extent : goal.returns-in_err-begins-clause-extent
returns-in_err-begins-clause-extent g c = λ told.
    let old = g.S.Shelf.rest c.args.shelf.now in
    intro_alone old (g.S.Shelf.rest c.take_intro.new.shelf) (bytes_left old) (c.take_intro.ensures.extent told)
