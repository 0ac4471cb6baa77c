use Rattle.std.proofs.Common.{◌≡◌, Bool, [], Ok, Err, subst}
use Rattle.std.proofs.lemmas.Result.{err_from_is_err_and}
use Rattle.rpm_query.proofs.Vocabulary.{Anywhere, bearer, Header, inner, meaning, outputs, printed_step, StepIs}
use Rattle.rpm_effects.proofs.laws.Stopping.{reached_first}
use Rattle.rpm_query.proofs.Filed.{fails_one}
use Rattle.rpm_query.proofs.package_files.print_package.Goals as goal

pub returns-clause-part : goal.returns-clause-part
returns-clause-part g c = λ j.
    let same : c.of_checked-view.result ≡ c.args.found.now = cc in
    let old = outputs g.O.Sink.tells (g.O.Sink.taken (inner c.args.out.now)) g.E.Sink.tells (g.E.Sink.taken (inner c.args.err.now)) in
    let new = outputs g.O.Sink.tells (g.O.Sink.taken (inner c.print_header.new.out)) g.E.Sink.tells (g.E.Sink.taken (inner c.print_header.new.err)) in
    let s = printed_step (bearer j 0) (meaning c.args.found.now 0 c.args.format.now) in
    let step : StepIs s (Ok c.in_ok-to_out.to_out) old new =
    subst (λ (h : Header). StepIs (printed_step (bearer j 0) (meaning h 0 c.args.format.now)) (Ok c.in_ok-to_out.to_out) old new) same
    (c.in_ok-to_out.ensures.step j) in
    record { steps = step.1; fails = fails_one s c.in_ok-to_out.to_out step.0 }

pub returns-in_err-to_out-clause-part : goal.returns-in_err-to_out-clause-part
returns-in_err-to_out-clause-part g c = λ j.
    let same : c.of_checked-view.result ≡ c.args.found.now = cc in
    let old = outputs g.O.Sink.tells (g.O.Sink.taken (inner c.args.out.now)) g.E.Sink.tells (g.E.Sink.taken (inner c.args.err.now)) in
    let new = outputs g.O.Sink.tells (g.O.Sink.taken (inner c.print_header.new.out)) g.E.Sink.tells (g.E.Sink.taken (inner c.print_header.new.err)) in
    let s = printed_step (bearer j 0) (meaning c.args.found.now 0 c.args.format.now) in
    let step : StepIs s (Err c.in_err-to_out.field-0.0) old new =
    subst (λ (h : Header). StepIs (printed_step (bearer j 0) (meaning h 0 c.args.format.now)) (Err c.in_err-to_out.field-0.0) old new) same
    (c.in_err-to_out.ensures.step j) in
    let p = err_from_is_err_and c.from_residual.result c.from_residual.ensures.1 in
    rw (p.1, p.2) (record { steps = reached_first Bool s [] c.in_err-to_out.field-0.0 old new Anywhere tt step; fails = tt })
