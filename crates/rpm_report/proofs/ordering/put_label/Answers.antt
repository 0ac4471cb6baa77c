use Rattle.std.proofs.Common.{◌≡◌, ℕ, Bool, List, [], ◌∷◌, Ok, sym, ap, ◌∙◌}
use Rattle.std.proofs.lemmas.Result.{err_from_is_err_and}
use Rattle.std.specs.Prelude.{codes}
use Rattle.rpm_report.proofs.Vocabulary.{Anywhere, bearer, concat, header, header_label, inner, label_text, outputs, read_text}
use Rattle.rpm_report.proofs.Labels.{header_label_is}
use Rattle.rpm_effects.proofs.laws.Reaching.{not_begun, through_none}
use Rattle.rpm_effects.proofs.laws.Stopping.{reached_unsunk}
use Rattle.rpm_report.proofs.Telling.{line_told}
use Rattle.rpm_report.proofs.ordering.put_label.Goals as goal

pub returns-in_err-read_into-clause-went : goal.returns-in_err-read_into-clause-went
returns-in_err-read_into-clause-went g c = λ told et e.
    let x = outputs g.O.Sink.tells (g.O.Sink.taken (inner c.args.out.now)) et e in
    let p = err_from_is_err_and c.from_residual.result c.from_residual.ensures.1 in
    rw (p.1, p.2) (reached_unsunk Bool _ c.in_err-read_into.field-0.0 x x Anywhere c.in_err-read_into.ensures.reads.class
    (through_none {ot = g.O.Sink.tells} {et = et} (g.O.Sink.taken (inner c.args.out.now)) e))

pub returns-in_ok-label-in-Ok-clause-went : goal.returns-in_ok-label-in-Ok-clause-went
returns-in_ok-label-in-Ok-clause-went g c = λ told et e.
    let n = c.args.number in
    let h = c.in-Ok.view in
    let text = label_text c.args.indent.now n in
    let read : read_text text (Ok h) ≡ read_text text (header c.deref.result.now) = ap (read_text text) c.in-Ok.ensures.value in
    let label : c.deref-in-Ok.result.now ≡ header_label n h = c.deref-in-Ok.ensures.value ∙ c.in_ok-label-in-Ok.ensures ∙ header_label_is h n in
    line_told (ap (λ (t : List ℕ). concat (c.args.indent.now ∷ t ∷ codes "\n" ∷ [])) label ∙ read
    ∙ ap (λ (b : List ℕ). read_text text (header b)) c.deref.ensures.value ∙ sym (c.in_ok-read_into.ensures.told told text))
    (c.put_out.ensures.part (bearer 0 n) et e)

pub returns-in-Err-clause-went : goal.returns-in-Err-clause-went
returns-in-Err-clause-went g c = λ told et e.
    let text = label_text c.args.indent.now c.args.number in
    line_told (ap (read_text text) c.in-Err.ensures.value ∙ ap (λ (b : List ℕ). read_text text (header b)) c.deref.ensures.value
    ∙ sym (c.in_ok-read_into.ensures.told told text)) (c.put_out-in-Err.ensures.part (bearer 0 c.args.number) et e)

pub returns-in_err-label-in-Ok-clause-went : goal.returns-in_err-label-in-Ok-clause-went
returns-in_err-label-in-Ok-clause-went g c = λ told et e.
    let p = err_from_is_err_and c.from_residual-in_err-label-in-Ok.result c.from_residual-in_err-label-in-Ok.ensures.1 in
    rw (p.1, p.2) (not_begun (through_none {ot = g.O.Sink.tells} {et = et} (g.O.Sink.taken (inner c.args.out.now)) e))
