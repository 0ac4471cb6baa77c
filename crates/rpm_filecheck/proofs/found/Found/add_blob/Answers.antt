use Rattle.std.proofs.Common.{sym, ◌∙◌}
use Rattle.std.proofs.lemmas.Result.{on_ok_weaker}
use Rattle.rpm_filecheck.proofs.Labelled.{with-own}
use Rattle.rpm_filecheck.proofs.found.Found.add_blob.Goals as goal

pub returns-in-Ok : goal.returns-in-Ok
returns-in-Ok c = on_ok_weaker c.add_header.result (λ is.
    is ∙ sym (with-own c.args.number c.args.blob.now c.in-Ok.view c.args.self.now (sym c.in-Ok.ensures.value))) c.add_header.ensures
