use Rattle.rpm_report.proofs.Vocabulary.{Anywhere, bearer, flat_map, header, inner, packages_in, read_text, unmet_lines}
use Rattle.std.proofs.Common.{◌≡◌, Bool, List, ℕ, ap, sym, ◌∙◌}
use Rattle.std.proofs.lemmas.Result.{err_from_is_err_and}
use Rattle.std.specs.FinMap as finite
use Rattle.rpm_effects.proofs.laws.Reaching.{not_begun, through_none}
use Rattle.rpm_report.proofs.Rowed.{of_package, own_line, own_steps, piece_reached}
use Rattle.rpm_effects.proofs.laws.Stopping.{reached_unsunk}
use Rattle.rpm_report.proofs.unsatisfied.put_row.Goals as goal

pub returns-in_err-read_into-clause-went : goal.returns-in_err-read_into-clause-went
returns-in_err-read_into-clause-went g c = λ told et e.
    let p = err_from_is_err_and c.from_residual.result c.from_residual.ensures.1 in
    rw (p.1, p.2) (reached_unsunk Bool _ c.in_err-read_into.field-0.0 _ _ Anywhere c.in_err-read_into.ensures.reads.class
    (through_none {ot = g.O.Sink.tells} {et = et} (g.O.Sink.taken (inner c.args.out.now)) e))

pub returns-clause-went : goal.returns-clause-went
returns-clause-went g c = λ told et e.
    let all = packages_in g.D.Disk c.args.disk.now c.args.db.now in
    let n = c.args.number in
    let row = c.args.row.now in
    let is : c.in_ok-lines.lines.items ≡ flat_map (own_line all n) row =
    c.in_ok-lines.ensures ∙ ap (λ (b : List ℕ). read_text (unmet_lines row n) (header b)) c.deref.ensures.value
    ∙ sym (c.in_ok-read_into.ensures.told told (unmet_lines row n)) ∙ of_package n row (finite.get all n) in
    rw (own_steps all n row c.requires.own) (piece_reached (bearer 0 n) (own_line all n) c.deref-2.result.now _ _ row c.requires.some
    (c.deref-2.ensures.value ∙ is) c.put_text.result (c.put_text.ensures.step (bearer 0 n) et e))

pub returns-in_err-lines-clause-went : goal.returns-in_err-lines-clause-went
returns-in_err-lines-clause-went g c = λ told et e.
    let p = err_from_is_err_and c.from_residual-in_err-lines.result c.from_residual-in_err-lines.ensures.1 in
    rw (p.1, p.2) (not_begun (through_none {ot = g.O.Sink.tells} {et = et} (g.O.Sink.taken (inner c.args.out.now)) e))
