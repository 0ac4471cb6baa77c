use Rattle.std.proofs.Common.{◌-◌, sym, ap, map, Some, ◌∙◌, arith}
use Rattle.std.specs.Prelude.{slice_get}
use Rattle.rpm_header.proofs.Vocabulary.{Header}
use Rattle.rpm_header.proofs.Find.{found_at, not_at}
use Rattle.rpm_header.proofs.view.View.find.Goals as goal

pub returns-then-tag_at-tag : goal.returns-then-tag_at-tag
returns-then-tag_at-tag c =
    let at = sym (ap (λ (h : Header). slice_get h.entries (c.loop-i.i - 1)) c.self.view_is) ∙ c.entry.ensures in
    let tag = sym (ap (λ (h : Header). slice_get (map (λ e. e.tag) h.entries) (c.loop-i.i - 1)) c.self.view_is) ∙ c.tag_at.ensures in
    sym (found_at c.args.tag c.args.self.now.entries (c.loop-i.i - 1) c.loop-i.i c.entry.result (omega arith) at
    (tag ∙ ap Some c.if-tag_at-tag.true) c.loop-i.invariant)

pub loop-i-preserved : goal.loop-i-preserved
loop-i-preserved c =
    let tag = sym (ap (λ (h : Header). slice_get (map (λ e. e.tag) h.entries) (c.loop-i.i - 1)) c.self.view_is) ∙ c.tag_at.ensures in
    not_at c.args.tag c.args.self.now.entries (c.loop-i.i - 1) c.loop-i.i c.tag_at.result
    (omega arith) tag c.if-tag_at-tag.false c.loop-i.invariant
