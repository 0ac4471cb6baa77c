use Rattle.std.proofs.Common.{ap, sym, ◌∙◌, ◌++◌, Some, None, List, ℕ}
use Rattle.std.proofs.lemmas.List.{append-nil}
use Rattle.rpm_db.proofs.Vocabulary.{header, Row, rows_read}
use Rattle.rpm_db.proofs.Rowing.{package_rows-blob, rows_at-blob}
use Rattle.rpm_db.proofs.rows.push_package.Goals as goal

pub returns-in-Err-NoSuch-clause-rows : goal.returns-in-Err-NoSuch-clause-rows
returns-in-Err-NoSuch-clause-rows g c = λ told.
    let e = rw c.in-Err-NoSuch.field-0-is at c.in-Err-NoSuch.ensures.told told in
    sym (ap (λ (rs : List Row). c.args.rows.now ++ rs) (rows_at-blob (g.D.Disk.files c.args.disk.now).pkg c.args.store.now c.args.number None e)
    ∙ append-nil c.args.rows.now)

pub returns-in-Err-Bad-clause-rows : goal.returns-in-Err-Bad-clause-rows
returns-in-Err-Bad-clause-rows g c = λ told.
    let e = rw c.in-Err-Bad.field-0-is at c.in-Err-Bad.ensures.told told in
    sym (ap (λ (rs : List Row). c.args.rows.now ++ rs) (rows_at-blob (g.D.Disk.files c.args.disk.now).pkg c.args.store.now c.args.number (Some None) e)
    ∙ append-nil c.args.rows.now)

pub returns-in-Ok-push_blob-clause-rows : goal.returns-in-Ok-push_blob-clause-rows
returns-in-Ok-push_blob-clause-rows g c = λ told.
    let e = c.in-Ok.ensures.told told in
    c.in-Ok-push_blob.ensures ∙ ap (λ (bytes : List ℕ). c.args.rows.now ++ rows_read c.args.number (header bytes)) c.deref.ensures.value
    ∙ sym (ap (λ (rs : List Row). c.args.rows.now ++ rs) (rows_at-blob (g.D.Disk.files c.args.disk.now).pkg c.args.store.now c.args.number
    (Some (Some c.in-Ok.blob.items)) e ∙ package_rows-blob c.args.number c.in-Ok.blob.items))
