use Rattle.std.proofs.Common.{rules, ◌≡◌, ℕ, Result, Ok, Err, refl, sym, ◌∙◌, subst}
use Rattle.rpm_db.proofs.Vocabulary.{Add, AddAnswer, ChangeFault, Gathers, Header, header, header-own, resumed_database}
use Rattle.rpm_db.proofs.Refused.{add_same}
use Rattle.rpm_db.proofs.Results.{if_err, on_err}
use Rattle.rpm_db.proofs.batch.Batch.add.Goals as goal

pub add_view-requires-clause-own : goal.add_view-requires-clause-own
add_view-requires-clause-own g c = header-own c.args.blob.now c.in_ok-view.view (sym c.in_ok-view.ensures.value)

pub returns-clause-gathers : goal.returns-clause-gathers
returns-clause-gathers g c = λ h is.
    let first : header c.args.blob.now ≡ Ok c.in_ok-view.view = sym c.in_ok-view.ensures.value in
    let same : c.in_ok-view.view ≡ h = cc in
    subst (λ (v : Header). Gathers g.D.Disk c.args.disk.now c.add_view.new.disk (Add v.blob) c.args.db.now c.add_view.new.db c.args.self.now
    c.add_view.new.self c.add_view.result) same c.add_view.ensures.gathers

pub returns-clause-causes : goal.returns-clause-causes
returns-clause-causes g c =
    let first : header c.args.blob.now ≡ Ok c.in_ok-view.view = sym c.in_ok-view.ensures.value in
    add_same (resumed_database c.args.db.now) _ c.args.blob.now (header-own c.args.blob.now c.in_ok-view.view first ∙ sym first) c.add_view.result
    c.add_view.ensures.causes

pub returns-clause-refused : goal.returns-clause-refused
returns-clause-refused g c = λ fault is.
    let v = c.in_ok-view.view in
    let own : header v.blob ≡ Ok v = header-own c.args.blob.now v (sym c.in_ok-view.ensures.value) in
    let bad = subst (λ (r : Result ℕ ChangeFault). AddAnswer (resumed_database c.args.db.now) v.blob r) is c.add_view.ensures.causes in
    absurd (let none : header v.blob ≡ Err fault = bad.1 in cc)

pub returns-in_err-view-clause-left : goal.returns-in_err-view-clause-left
returns-in_err-view-clause-left g c = record {
  indexed = c.requires.gathering.indexed;
  stopped = on_err c.from_residual.result c.requires.gathering.suspends;
  refused = if_err c.from_residual.result (λ e refusal. refl);
  same = search rules;
  moment = if_err c.from_residual.result (λ e refusal. refl);
  bad = search rules;
}
