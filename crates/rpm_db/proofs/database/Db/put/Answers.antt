use Rattle.std.proofs.Common.{◌≡◌, Ok, sym, ◌∙◌, subst}
use Rattle.rpm_db.proofs.Vocabulary.{Header, header, header-own, Makes, Put}
use Rattle.rpm_db.proofs.Refused.{put_same}
use Rattle.rpm_db.proofs.database.Db.put.Goals as goal

pub put_view-requires-clause-own : goal.put_view-requires-clause-own
put_view-requires-clause-own g c = header-own c.args.blob.now c.in_ok-view.view (sym c.in_ok-view.ensures.value)

pub returns-clause-makes : goal.returns-clause-makes
returns-clause-makes g c = λ h is.
    let first : header c.args.blob.now ≡ Ok c.in_ok-view.view = sym c.in_ok-view.ensures.value in
    let same : c.in_ok-view.view ≡ h = cc in
    subst (λ (v : Header). Makes g.D.Disk c.args.disk.now c.put_view.new.disk (Put c.args.n v.blob) c.args.self.now c.put_view.new.self c.put_view.result)
    same c.put_view.ensures.makes

pub returns-clause-causes : goal.returns-clause-causes
returns-clause-causes g c =
    let first : header c.args.blob.now ≡ Ok c.in_ok-view.view = sym c.in_ok-view.ensures.value in
    put_same c.args.self.now _ c.args.blob.now (header-own c.args.blob.now c.in_ok-view.view first ∙ sym first)
    c.args.n c.put_view.result c.put_view.ensures.causes
