use Rattle.std.proofs.lemmas.Result.{err_from_is_err_and}
use Rattle.rpm_db.proofs.Vocabulary.{store}
use Rattle.rpm_db.proofs.Faults.{store_told}
use Rattle.rpm_db.proofs.database.open_store.Goals as goal

pub returns-in_err-store-clause-store : goal.returns-in_err-store-clause-store
returns-in_err-store-clause-store g c = λ told.
    let p = err_from_is_err_and c.from_residual.result c.from_residual.ensures.1 in
    rw (p.1, p.2) (store_told (store (g.D.Disk.files c.args.disk.now).pkg) c.in_err-store.field-0.0 (c.in_err-store.ensures.store told))
