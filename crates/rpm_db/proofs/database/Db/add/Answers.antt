use Rattle.std.proofs.Common.{◌≡◌, Ok, sym, ◌∙◌, subst}
use Rattle.rpm_db.proofs.Vocabulary.{Add, Header, header, header-own, Makes}
use Rattle.rpm_db.proofs.Refused.{add_same}
use Rattle.rpm_db.proofs.database.Db.add.Goals as goal

pub add_view-requires-clause-own : goal.add_view-requires-clause-own
add_view-requires-clause-own g c = header-own c.args.blob.now c.in_ok-view.view (sym c.in_ok-view.ensures.value)

pub returns-clause-makes : goal.returns-clause-makes
returns-clause-makes g c = λ h is.
    let first : header c.args.blob.now ≡ Ok c.in_ok-view.view = sym c.in_ok-view.ensures.value in
    let same : c.in_ok-view.view ≡ h = cc in
    subst (λ (v : Header). Makes g.D.Disk c.args.disk.now c.add_view.new.disk (Add v.blob) c.args.self.now c.add_view.new.self c.add_view.result) same
    c.add_view.ensures.makes

pub returns-clause-causes : goal.returns-clause-causes
returns-clause-causes g c =
    let first : header c.args.blob.now ≡ Ok c.in_ok-view.view = sym c.in_ok-view.ensures.value in
    add_same c.args.self.now _ c.args.blob.now (header-own c.args.blob.now c.in_ok-view.view first ∙ sym first) c.add_view.result c.add_view.ensures.causes
