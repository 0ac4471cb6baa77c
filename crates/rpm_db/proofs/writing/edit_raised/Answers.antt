use Rattle.std.proofs.Common.{◌+◌, ◌≤◌, IsTrue, arith, ap, ◌∙◌, rules}
use Rattle.rpm_db.proofs.Vocabulary.{Anything, BlobMap, blobs, BlobsTo, changes_then, changes_weaker, edit_cost, edited_blobs, edited_number, EditsTo, field_edited, IsEdited, Pkg}
use Rattle.rpm_db.proofs.Vocabulary.{RaisesTo, SameOutside, crashes_then, crashes_weaker, Store}
use Rattle.rpm_db.proofs.Results.{map_ok}
use Rattle.rpm_db.proofs.Raised.{cost_raised, edits_to, raises_to}
use Rattle.rpm_db.proofs.Sums.{sums_since}
use Rattle.rpm_db.proofs.VerdictLaws.{verdict_stays}
use Rattle.rpm_db.proofs.writing.edit_raised.Goals as goal

-- ---- what the change asks for

pub edit_store-requires-clause-generation : goal.edit_store-requires-clause-generation
edit_store-requires-clause-generation g c = omega (arith, ap (λ (v : Store). v.generation) c.in-Ok.ensures.ok, c.requires.can.left)

-- ---- what crashes leave

pub returns-in-Err-clause-images : goal.returns-in-Err-clause-images
returns-in-Err-clause-images g c = λ told quiet.
    let D = g.D.Disk in
    let st = c.args.store.now in
    let file = (D.files c.args.disk.now).pkg in
    let next = field_edited c.args.edit st.field in
    let after = edited_blobs c.args.edit c.args.blob.now (blobs file st) in
    crashes_weaker D Pkg (RaisesTo st (st.generation + 1) file) (BlobsTo st.generation st.field next (blobs file st) after)
    c.args.disk.now c.raise.new.disk (raises_to st next after file) (c.in-Err.ensures.images told quiet)

pub returns-in-Ok-clause-images : goal.returns-in-Ok-clause-images
returns-in-Ok-clause-images g c = λ told quiet.
    let D = g.D.Disk in
    let st = c.args.store.now in
    let a = c.args.disk.now in
    let b = c.raise.new.disk in
    let d = c.edit_store.new.disk in
    let file = (D.files a).pkg in
    let mid = (D.files b).pkg in
    let raised = c.raise.new.self in
    let next = field_edited c.args.edit st.field in
    let after = edited_blobs c.args.edit c.args.blob.now (blobs file st) in
    let to = BlobsTo st.generation st.field next (blobs file st) after in
    let e = c.in-Ok.ensures in
    let first = crashes_weaker D Pkg (RaisesTo st (st.generation + 1) file) to a b (raises_to st next after file) (e.images told quiet) in
    let second =
    crashes_weaker D Pkg (EditsTo raised c.args.edit c.args.blob.now mid) to b d
    (λ image. edits_to st.generation st.field (blobs file st) raised mid image (ap (λ (v : Store). v.generation) e.ok)
    (ap (λ (v : Store). v.field) e.ok) (e.raised told).written.blobs_are c.args.edit c.args.blob.now) (c.edit_store.ensures.crashes told (e.raised
    told).written.quiet) in
    crashes_then D Pkg told (SameOutside 0 1) to 0 a b d e.writes.changes first second

-- ---- what was written

pub returns-in-Err-clause-writes : goal.returns-in-Err-clause-writes
returns-in-Err-clause-writes g c =
    let D = g.D.Disk in
    record {
      changes = changes_weaker D Pkg (SameOutside 0 1) Anything 0
          (edit_cost c.args.edit c.args.store.now) c.args.disk.now c.raise.new.disk (omega arith) (λ x y r. tt) c.in-Err.ensures.writes.changes;
      cause = search rules;
    }

pub returns-in-Ok-clause-writes : goal.returns-in-Ok-clause-writes
returns-in-Ok-clause-writes g c =
    let D = g.D.Disk in
    let raised = c.raise.new.self in
    record {
      changes = changes_then D Pkg g.met.D.Disk.follows_trans (SameOutside 0 1) Anything Anything 0
          (edit_cost c.args.edit raised) (edit_cost c.args.edit c.args.store.now) c.args.disk.now c.raise.new.disk c.edit_store.new.disk
          (omega (arith, cost_raised (c.args.store.now.generation + 1) c.args.edit c.args.store.now, ap (edit_cost c.args.edit) c.in-Ok.ensures.ok))
          (λ x y r. tt) (λ x y z p q. tt)
          c.in-Ok.ensures.writes.changes c.edit_store.ensures.writes.changes;
      cause = search rules;
    }

pub returns-in-Ok-clause-stored : goal.returns-in-Ok-clause-stored
returns-in-Ok-clause-stored g c =
    let D = g.D.Disk in
    let raised = c.raise.new.self in
    let new = c.edit_store.new.store in
    map_ok c.edit_store.result (λ (e : IsTrue D.tells → IsEdited D c.raise.new.disk c.edit_store.new.disk raised new c.args.edit c.args.blob.now). record {
      kept = λ told. (e told).written.kept;
      blobs_are = λ told.
          (e told).written.blobs_are ∙ ap (λ (m : BlobMap). edited_blobs c.args.edit c.args.blob.now m) (c.in-Ok.ensures.raised told).written.blobs_are;
      quiet = λ told. (e told).written.quiet;
      stands = λ told. (e told).written.stands;
    }) c.edit_store.ensures.edited

pub returns-in-Ok-clause-sums : goal.returns-in-Ok-clause-sums
returns-in-Ok-clause-sums g c =
    let D = g.D.Disk in
    let st = c.args.store.now in
    let raised = c.raise.new.self in
    let new = c.edit_store.new.store in
    let ready = c.requires.ready in
    let old = (D.files c.args.disk.now).pkg in
    let mid = (D.files c.raise.new.disk).pkg in
    let some : 1 ≤ raised.pages = omega (arith, ap (λ (v : Store). v.pages) c.in-Ok.ensures.ok, ready.made) in
    map_ok c.edit_store.result (λ (e : IsTrue D.tells → IsEdited D c.raise.new.disk c.edit_store.new.disk raised new c.args.edit c.args.blob.now) told.
    let r = c.in-Ok.ensures.raised told in
    sums_since (edited_number c.args.edit) old mid (D.files c.edit_store.new.disk).pkg st raised new
    (λ m. verdict_stays old mid st raised (ready.keeps told) r.written.kept ready.made some m (r.others m)) (e told).sums) c.edit_store.ensures.edited
