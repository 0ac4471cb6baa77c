use Rattle.rpm_print.proofs.Vocabulary.{bearer, buffer_sink, inner, meaning, sizes_line}
use Rattle.rpm_print.proofs.laws.Printing.{told_counts, print_stopped, print_flushed}
use Rattle.rpm_print.proofs.step.print_header.Goals as goal

pub returns-in-Ok-flush-clause-step : goal.returns-in-Ok-flush-clause-step
returns-in-Ok-flush-clause-step g c = λ j.
    rw (← c.clear.ensures.inner) (print_flushed g.O.Sink g.met.O.Sink.follows_grows _ _ _ g.met.O.Sink.follows_trans
    (meaning c.args.view.now c.args.number c.args.format.now) c.clear.new.self c.print_direct.new.sink c.flush.new.self _ c.clear.ensures.holds
    c.in-Ok.ensures.prints c.in-Ok-flush.ensures)

pub returns-in-Err-clause-step : goal.returns-in-Err-clause-step
returns-in-Err-clause-step g c = λ j.
    rw (← c.clear.ensures.inner) (print_flushed g.O.Sink g.met.O.Sink.follows_grows _ _ _ g.met.O.Sink.follows_trans
    (meaning c.args.view.now c.args.number c.args.format.now) c.clear.new.self c.print_direct.new.sink c.flush.new.self _ c.clear.ensures.holds
    c.in-Ok.ensures.prints c.in-Err.ensures)

pub returns-in-Err-OutFault-clause-step : goal.returns-in-Err-OutFault-clause-step
returns-in-Err-OutFault-clause-step g c = λ j.
    rw (← c.clear.ensures.inner) (print_stopped g.O.Sink g.met.O.Sink.follows_grows _ _ _
    (meaning c.args.view.now c.args.number c.args.format.now) c.clear.new.self c.print_direct.new.sink c.clear.ensures.holds
    (rw c.in-Err-OutFault.field-0-is at c.in-Err-OutFault.ensures.prints))

pub returns-in-Err-SizesDiffer-clause-step : goal.returns-in-Err-SizesDiffer-clause-step
unfolding sizes_line
returns-in-Err-SizesDiffer-clause-step g c = λ j.
    let p = rw c.in-Err-SizesDiffer.field-0-is at c.in-Err-SizesDiffer.ensures.prints in
    let told = told_counts (buffer_sink g.O.Sink) (meaning c.args.view.now c.args.number c.args.format.now) c.clear.new.self c.print_direct.new.sink _ _
    p.ends in
    rw (told.0, told.1, c.clear.ensures.inner) (c.put_message.ensures.step (bearer j c.args.number) g.O.Sink.tells (g.O.Sink.taken (inner c.args.out.now)))
