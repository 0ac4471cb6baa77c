use Rattle.std.proofs.Common.{rules, ◌≡◌, inl, inr, Result, Ok, Err, refl, sym, ◌∙◌, subst}
use Rattle.rpm_db.proofs.Vocabulary.{ChangeFault, Gathers, Header, header, header-own, Put, PutAnswer, resumed_database}
use Rattle.rpm_db.proofs.Refused.{put_same}
use Rattle.rpm_db.proofs.Results.{if_err, on_err}
use Rattle.rpm_db.proofs.batch.Batch.replace.Goals as goal

pub replace_view-requires-clause-own : goal.replace_view-requires-clause-own
replace_view-requires-clause-own g c = header-own c.args.blob.now c.in_ok-view.view (sym c.in_ok-view.ensures.value)

pub returns-clause-gathers : goal.returns-clause-gathers
returns-clause-gathers g c = λ h is.
    let first : header c.args.blob.now ≡ Ok c.in_ok-view.view = sym c.in_ok-view.ensures.value in
    let same : c.in_ok-view.view ≡ h = cc in
    subst (λ (v : Header). Gathers g.D.Disk c.args.disk.now c.replace_view.new.disk (Put c.args.n v.blob) c.args.db.now c.replace_view.new.db
    c.args.self.now c.replace_view.new.self c.replace_view.result) same c.replace_view.ensures.gathers

pub returns-clause-causes : goal.returns-clause-causes
returns-clause-causes g c =
    let first : header c.args.blob.now ≡ Ok c.in_ok-view.view = sym c.in_ok-view.ensures.value in
    put_same (resumed_database c.args.db.now) _ c.args.blob.now (header-own c.args.blob.now c.in_ok-view.view first ∙ sym first)
    c.args.n c.replace_view.result c.replace_view.ensures.causes

pub returns-clause-refused : goal.returns-clause-refused
returns-clause-refused g c = λ which.
    let v = c.in_ok-view.view in
    let own : header v.blob ≡ Ok v = header-own c.args.blob.now v (sym c.in_ok-view.ensures.value) in
    let causes = c.replace_view.ensures.causes in
    elim which [
      | inl is ↦ c.replace_view.ensures.refused is
      | inr is ↦
          absurd (let bad = subst (λ (r : Result (Unit {0}) ChangeFault). PutAnswer (resumed_database c.args.db.now) c.args.n v.blob r) is.1 causes in
          let none : header v.blob ≡ Err is.0 = bad.1 in
          cc)
    ]

pub returns-in_err-view-clause-left : goal.returns-in_err-view-clause-left
returns-in_err-view-clause-left g c = record {
  indexed = c.requires.gathering.indexed;
  stopped = on_err c.from_residual.result c.requires.gathering.suspends;
  refused = if_err c.from_residual.result (λ e refusal. refl);
  same = search rules;
  moment = if_err c.from_residual.result (λ e refusal. refl);
  bad = search rules;
}
