use Rattle.std.proofs.Common.{sym}
use Rattle.std.proofs.lemmas.Result.{err_from_is_err_and}
use Rattle.rpm_file.proofs.Vocabulary.{behind_lead, bytes_left}
use Rattle.rpm_file.proofs.Packaged.{lead_taken, lead_wrong, lead_short, taken_fault}
use Rattle.rpm_file.proofs.package.skip_lead.Goals as goal

pub returns-in_err-take_all-clause-answers : goal.returns-in_err-take_all-clause-answers
returns-in_err-take_all-clause-answers g c = λ told.
    let old = g.S.Shelf.rest c.args.shelf.now in
    let new = g.S.Shelf.rest c.take_all.new.shelf in
    let lead = c.take_all.new.into in
    let p = err_from_is_err_and c.from_residual.result c.from_residual.ensures.1 in
    rw (p.1, p.2) (taken_fault (Unit {0}) (behind_lead (bytes_left old)) old new lead c.in_err-take_all.field-0.0
    (lead_short (bytes_left old) lead c.take_all.auto.into) (c.in_err-take_all.ensures.answers told))

pub returns-then-is_lead-clause-answers : goal.returns-then-is_lead-clause-answers
returns-then-is_lead-clause-answers g c = λ told.
    lead_taken _ c.take_all.new.into _ (c.in_ok-take_all.ensures.answers told).front c.take_all.auto.into (sym c.if-is_lead.ensures)

pub returns-else-is_lead-clause-answers : goal.returns-else-is_lead-clause-answers
returns-else-is_lead-clause-answers g c = λ told.
    lead_wrong _ c.take_all.new.into _ (c.in_ok-take_all.ensures.answers told).front c.take_all.auto.into (sym c.if-is_lead.ensures)
