use Rattle.std.proofs.Common.{◌%◌, Some, None, sym, ap, ◌∙◌, arith}
use Rattle.std.proofs.lemmas.List.{get_or_default, get_or_past}
use Rattle.rpm_group.proofs.Vocabulary.{in_page, Page}
use Rattle.rpm_group.proofs.Tables.{held_in_page, page_read, page_past}
use Rattle.rpm_group.proofs.table.page_of.Goals as goal

pub returns-then-q-len : goal.returns-then-q-len
returns-then-q-len c = λ k below. held_in_page c.args.table.now.items c.args.q k None below
    (page_past c.args.table.now.items c.args.q (omega (arith, c.if-q-len.true, c.len.ensures)))

pub returns-then-q-len-2 : goal.returns-then-q-len-2
returns-then-q-len-2 c = λ k below.
    let leaf = c.index-leaf.result.now in
    held_in_page c.args.table.now.items c.args.q k None below
    (page_read c.args.table.now.items c.args.q leaf (omega (arith, c.if-q-len.false, c.len.ensures)) c.index-leaf.ensures
    ∙ get_or_past leaf.items (c.args.q % 256) None (omega (arith, c.if-q-len-2.true, c.len-2.ensures)))

pub returns-in-Some : goal.returns-in-Some
returns-in-Some c = λ k below.
    let leaf = c.index-leaf.result.now in
    held_in_page c.args.table.now.items c.args.q k (Some c.in-Some.page) below
    (page_read c.args.table.now.items c.args.q leaf (omega (arith, c.if-q-len.false, c.len.ensures)) c.index-leaf.ensures
    ∙ get_or_default leaf.items (c.args.q % 256) None c.index.result.now (omega (arith, c.if-q-len-2.false, c.len-2.ensures))
    ∙ sym c.index.ensures
    ∙ c.in-Some.is)
    ∙ sym (ap (λ (p : Page). in_page p k) c.deref.ensures)

pub returns-in-None : goal.returns-in-None
returns-in-None c = λ k below.
    let leaf = c.index-leaf.result.now in
    held_in_page c.args.table.now.items c.args.q k None below
    (page_read c.args.table.now.items c.args.q leaf (omega (arith, c.if-q-len.false, c.len.ensures)) c.index-leaf.ensures
    ∙ get_or_default leaf.items (c.args.q % 256) None c.index.result.now (omega (arith, c.if-q-len-2.false, c.len-2.ensures))
    ∙ sym c.index.ensures
    ∙ c.in-None.is)
