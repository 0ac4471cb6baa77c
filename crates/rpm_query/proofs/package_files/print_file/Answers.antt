use Rattle.std.proofs.Common.{ℕ, List, Option, sym, subst}
use Rattle.rpm_query.proofs.Vocabulary.{Anywhere, bytes_at, inner, outputs, PartIs, Portion, whole_step}
use Rattle.rpm_effects.proofs.laws.Failing.{line_part}
use Rattle.rpm_query.proofs.Filed.{found_part, found_open}
use Rattle.rpm_query.proofs.package_files.print_file.Goals as goal

pub returns-in-Ok-clause-went : goal.returns-in-Ok-clause-went
returns-in-Ok-clause-went g c = λ told j.
    let opened = c.in-Ok.ensures.opened told in
    let found = bytes_at (g.S.Shelf.paths c.args.shelf.now) c.args.path.now in
    subst (λ (p : Portion). PartIs p c.print_opened.result
    (outputs g.O.Sink.tells (g.O.Sink.taken (inner c.args.out.now)) g.E.Sink.tells (g.E.Sink.taken (inner c.args.err.now)))
    (outputs g.O.Sink.tells (g.O.Sink.taken (inner c.print_opened.new.out)) g.E.Sink.tells (g.E.Sink.taken (inner c.print_opened.new.err))) Anywhere)
    (sym (found_open c.args.format.now j c.args.path.now found (g.S.Shelf.rest c.open.new.self) opened.0 opened.1))
    (rw c.as_bytes.ensures.value at (c.print_opened.ensures.went told j))

pub returns-in-Err-clause-went : goal.returns-in-Err-clause-went
returns-in-Err-clause-went g c = λ told j.
    let opened = c.in-Err.ensures.opened told in
    let o = g.O.Sink.taken (inner c.args.out.now) in
    subst (λ (found : Option (List ℕ)). PartIs (found_part c.args.format.now j c.args.path.now found) c.answer_of_line.result
    (outputs g.O.Sink.tells o g.E.Sink.tells (g.E.Sink.taken (inner c.args.err.now)))
    (outputs g.O.Sink.tells o g.E.Sink.tells (g.E.Sink.taken (inner c.put_absent.new.err))) Anywhere)
    (sym opened.1)
    (rw c.answer_of_line.ensures
    (line_part g.E.Sink c.put_absent.result (rw c.as_bytes-in-Err.ensures.value at c.put_absent.ensures) (whole_step j) g.O.Sink.tells o))
