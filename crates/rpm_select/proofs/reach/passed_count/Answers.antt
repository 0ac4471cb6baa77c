use Rattle.std.proofs.Common.{◌+◌, arith, Ok, Err}
use Rattle.std.proofs.lemmas.List.Sorted.{searched}
use Rattle.rpm_select.proofs.Searching.{no_fall}
use Rattle.rpm_select.proofs.reach.passed_count.Goals as goal

pub returns-in-Ok-clause-below : goal.returns-in-Ok-clause-below
returns-in-Ok-clause-below c k before within =
    let xs = c.args.numbers.now in
    let at = searched xs c.args.n (Ok c.in-Ok.place) c.in-Ok.ensures.position (no_fall xs c.requires) in
    omega (arith, at.1, no_fall xs c.requires k c.in-Ok.place (omega (arith, before)) at.0)

pub returns-in-Ok-clause-over : goal.returns-in-Ok-clause-over
returns-in-Ok-clause-over c k from within =
    let xs = c.args.numbers.now in
    let at = searched xs c.args.n (Ok c.in-Ok.place) c.in-Ok.ensures.position (no_fall xs c.requires) in
    omega (arith, at.1, c.requires c.in-Ok.place (omega (arith, from, within)), no_fall xs c.requires (c.in-Ok.place + 1) k (omega (arith, from)) within)

pub returns-in-Err-clause-below : goal.returns-in-Err-clause-below
returns-in-Err-clause-below c k before within =
    let xs = c.args.numbers.now in
    let at = searched xs c.args.n (Err c.in-Err.place) c.in-Err.ensures.position (no_fall xs c.requires) in
    omega (arith, at.1 k before)

pub returns-in-Err-clause-over : goal.returns-in-Err-clause-over
returns-in-Err-clause-over c k from within =
    let xs = c.args.numbers.now in
    let at = searched xs c.args.n (Err c.in-Err.place) c.in-Err.ensures.position (no_fall xs c.requires) in
    at.2 k from within
