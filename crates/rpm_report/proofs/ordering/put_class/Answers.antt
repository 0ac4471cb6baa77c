use Rattle.rpm_report.proofs.Vocabulary.{concat, cycle_line, inner, label_step, packages_in, ToOut, whole_step}
use Rattle.std.proofs.Common.{◌≡◌, ℕ, Bool, List, [], ◌∷◌, map, length, ap, ◌∙◌}
use Rattle.std.proofs.lemmas.Result.{err_from_is_err_and}
use Rattle.std.specs.Prelude.{codes, decimal}
use Rattle.rpm_report.proofs.Behind.{first_stops, head_reached}
use Rattle.rpm_report.proofs.Telling.{line_told, one_class, more_classes}
use Rattle.rpm_report.proofs.ordering.put_class.Goals as goal

-- the line in its pieces
pieces_are : (n : ℕ) {digits : List ℕ} → digits ≡ decimal n → concat (codes "cycle: " ∷ digits ∷ codes "\n" ∷ []) ≡ cycle_line n
pieces_are n is = ap (λ (d : List ℕ). concat (codes "cycle: " ∷ d ∷ codes "\n" ∷ [])) is

pub returns-then-count-eq1-clause-went : goal.returns-then-count-eq1-clause-went
returns-then-count-eq1-clause-went g c = λ told et e.
    rw (one_class (packages_in g.D.Disk c.args.disk.now c.args.db.now) c.args.class.now c.if-count-eq1.true) (c.put_labels.ensures.went told et e)

pub returns-clause-went : goal.returns-clause-went
returns-clause-went g c = λ told et e.
    let all = packages_in g.D.Disk c.args.disk.now c.args.db.now in
    let class = c.args.class.now in
    let digits = c.as_bytes-number.ensures.value ∙ c.format.ensures.text in
    rw (more_classes all class c.if-count-eq1.false)
    (head_reached _ _ (ToOut (whole_step 0) (cycle_line (length class))) (map (label_step all (codes "  ")) class) c.put_labels-2.result _ _
    (g.O.Sink.taken (inner c.put_labels-2.new.out)) _ _ e (line_told (pieces_are (length class) digits) (c.in_ok-put_out.ensures.part (whole_step 0) et e))
    (c.put_labels-2.ensures.went told et e))

pub returns-in_err-put_out-clause-went : goal.returns-in_err-put_out-clause-went
returns-in_err-put_out-clause-went g c = λ told et e.
    let all = packages_in g.D.Disk c.args.disk.now c.args.db.now in
    let class = c.args.class.now in
    let digits = c.as_bytes-number.ensures.value ∙ c.format.ensures.text in
    let p = err_from_is_err_and c.from_residual.result c.from_residual.ensures.1 in
    rw (more_classes all class c.if-count-eq1.false, p.1, p.2)
    (first_stops g.O.Sink.tells et (ToOut (whole_step 0) (cycle_line (length class)) ∷ []) (map (label_step all (codes "  ")) class) Bool (Unit {0})
    c.in_err-put_out.field-0.0 (g.O.Sink.taken (inner c.args.out.now)) (g.O.Sink.taken (inner c.put_out.new.out)) e e
    (line_told (pieces_are (length class) digits) (c.in_err-put_out.ensures.part (whole_step 0) et e)))
