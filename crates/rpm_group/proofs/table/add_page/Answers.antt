use Rattle.std.proofs.Common.{◌/◌, Result, Ok, Err, refl, ap, ◌∙◌, arith}
use Rattle.std.specs.Prelude.{OnOk, is_some}
use Rattle.rpm_group.proofs.Tables.{same_held, same_set, keeps_set, page_set_here}
use Rattle.rpm_group.proofs.table.add_page.Goals as goal

on_ok : {T E : Type 0} (r : Result T E) (P Q : Type 0) → (P → Q) → OnOk r P → OnOk r Q
on_ok (Ok x) P Q f p = f p
on_ok (Err e) P Q f p = tt

pub returns-in_err-lengthen-clause-same : goal.returns-in_err-lengthen-clause-same
returns-in_err-lengthen-clause-same c = same_held c.args.table.now.items c.lengthen.new.table.items c.lengthen.ensures.same

pub returns-clause-same : goal.returns-clause-same
returns-clause-same c = λ i.
    same_set c.lengthen.new.table.items (c.args.q / 256) c.index_mut.result.now c.add.new.leaf (omega (arith, c.in_ok-lengthen.ensures.long))
    c.index_mut.ensures.value c.add.ensures.same i
    ∙ same_held c.args.table.now.items c.lengthen.new.table.items c.lengthen.ensures.same i

pub returns-clause-pages : goal.returns-clause-pages
returns-clause-pages c = λ q there.
    keeps_set c.lengthen.new.table.items (c.args.q / 256) c.index_mut.result.now c.add.new.leaf (omega (arith, c.in_ok-lengthen.ensures.long))
    c.index_mut.ensures.value c.add.ensures.pages q (ap is_some (c.lengthen.ensures.same q) ∙ there)

pub returns-clause-there : goal.returns-clause-there
returns-clause-there c = on_ok c.add.result _ _ (λ there.
    ap is_some (page_set_here c.lengthen.new.table.items (c.args.q / 256) c.index_mut.result.now c.add.new.leaf
    (omega (arith, c.in_ok-lengthen.ensures.long)) c.index_mut.ensures.value c.args.q refl) ∙ there) c.add.ensures.there
