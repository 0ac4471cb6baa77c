use Rattle.std.proofs.Common.{◌≡◌, Some, Result, Err, sym, ap, ◌∙◌, subst}
use Rattle.rpm_query.proofs.Vocabulary.{Anywhere, FileFault, HeaderAndRest, inner, bytes_left, outputs, package_header, PartIs, read_part, whole_step}
use Rattle.rpm_effects.specs.declared.tally.Halt.TheVariants as halt
use Rattle.rpm_effects.proofs.laws.Failing.{line_part}
use Rattle.rpm_effects.proofs.laws.Reaching.{through_none}
use Rattle.rpm_query.proofs.Filed.{read_stop, own_fault, unread}
use Rattle.rpm_query.proofs.package_files.print_opened.Goals as goal

pub returns-in-Ok-clause-went : goal.returns-in-Ok-clause-went
returns-in-Ok-clause-went g c = λ told j.
    subst (λ (r : Result HeaderAndRest FileFault). PartIs (read_part c.args.format.now j c.args.path.now r) c.print_package.result
    (outputs g.O.Sink.tells (g.O.Sink.taken (inner c.args.out.now)) g.E.Sink.tells (g.E.Sink.taken (inner c.args.err.now)))
    (outputs g.O.Sink.tells (g.O.Sink.taken (inner c.print_package.new.out)) g.E.Sink.tells (g.E.Sink.taken (inner c.print_package.new.err))) Anywhere)
    (sym (c.in-Ok.ensures.answers told)) (c.print_package.ensures.part j)

pub returns-in-Some-clause-went : goal.returns-in-Some-clause-went
returns-in-Some-clause-went g c = λ told j.
    let part = read_part c.args.format.now j c.args.path.now (package_header (bytes_left (g.S.Shelf.rest c.args.shelf.now))) in
    let o = g.O.Sink.taken (inner c.args.out.now) in
    let e = g.E.Sink.taken (inner c.args.err.now) in
    let same = outputs g.O.Sink.tells o g.E.Sink.tells e in
    record {
      steps = unread c.in-Err.fault c.in-Some.halt part.steps same same (sym c.in-Some.ensures)
          (through_none {ot = g.O.Sink.tells} {et = g.E.Sink.tells} o e);
      fails = tt;
    }

pub returns-in-Some-clause-shelf : goal.returns-in-Some-clause-shelf
returns-in-Some-clause-shelf g c = record {
  later = c.in-Err.ensures.cause.later;
  rose = λ is.
      let same : c.in-Some.halt ≡ halt.ShelfFault = cc in
      c.in-Err.ensures.cause.rose (ap Err (read_stop c.in-Err.fault (sym c.in-Some.ensures ∙ ap Some same)));
}

pub returns-in-None-clause-went : goal.returns-in-None-clause-went
returns-in-None-clause-went g c = λ told j.
    let found = package_header (bytes_left (g.S.Shelf.rest c.args.shelf.now)) in
    let o = g.O.Sink.taken (inner c.args.out.now) in
    subst (λ (r : Result HeaderAndRest FileFault). PartIs (read_part c.args.format.now j c.args.path.now r) c.answer_of_line.result
    (outputs g.O.Sink.tells o g.E.Sink.tells (g.E.Sink.taken (inner c.args.err.now)))
    (outputs g.O.Sink.tells o g.E.Sink.tells (g.E.Sink.taken (inner c.put_refused.new.err))) Anywhere)
    (sym (own_fault found c.in-Err.fault (sym c.in-None.ensures) (c.in-Err.ensures.answers told)))
    (rw c.answer_of_line.ensures (line_part g.E.Sink c.put_refused.result c.put_refused.ensures (whole_step j) g.O.Sink.tells o))
