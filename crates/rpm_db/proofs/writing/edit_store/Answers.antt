use Rattle.std.proofs.Common.{◌≡◌, IsTrue}
use Rattle.rpm_db.proofs.Vocabulary.{without_number}
use Rattle.rpm_db.proofs.Results.{both_ok}
use Rattle.rpm_db.proofs.Sums.{sums_erased, sums_put}
use Rattle.rpm_pkgdb.specs.Rewritten.{IsErased}
use Rattle.rpm_db.proofs.writing.edit_store.Goals as goal

pub returns-in-Ok-clause-crashes : goal.returns-in-Ok-clause-crashes
returns-in-Ok-clause-crashes g c = rw c.in-Put.is (λ told quiet. (c.in-Ok.ensures.crashes told quiet).images)

pub returns-in-Err-clause-crashes : goal.returns-in-Err-clause-crashes
returns-in-Err-clause-crashes g c = rw c.in-Put.is (λ told quiet. (c.in-Err.ensures.crashes told quiet).images)

pub returns-in-Erase-clause-crashes : goal.returns-in-Erase-clause-crashes
returns-in-Erase-clause-crashes g c = rw c.in-Erase.is (λ told quiet. (c.erase.ensures.crashes told quiet).images)

pub returns-in-Ok-clause-edited : goal.returns-in-Ok-clause-edited
returns-in-Ok-clause-edited g c = rw c.in-Put.is (λ told.
    let p = c.in-Ok.ensures.put told in
    let suits = rw c.in-Put.is at c.requires.suits in
    record {
      written = p.written;
      reach = p.reach;
      sums = sums_put g.D.Disk _ _ _ _ (c.requires.ready.keeps told) c.requires.ready.made c.in-Put.plan c.args.blob.now c.requires.generation suits
          c.in-Ok.ensures.value.ok p;
    })

pub returns-in-Erase-clause-edited : goal.returns-in-Erase-clause-edited
returns-in-Erase-clause-edited g c =
    let D = g.D.Disk in
    let st = c.args.store.now in
    let new = c.erase.new.self in
    rw c.in-Erase.is (both_ok c.erase.result
    (λ (is : new ≡ without_number c.in-Erase.n st) (gone : IsTrue D.tells → IsErased D c.args.disk.now c.erase.new.disk st new c.in-Erase.n) told. record {
      written = (gone told).written;
      reach = (gone told).reach;
      sums = sums_erased D _ _ _ _ (c.requires.ready.keeps told) c.requires.ready.made c.in-Erase.n is (gone told);
    }) c.erase.ensures.ok c.erase.ensures.erased)
