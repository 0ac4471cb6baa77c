use Rattle.std.proofs.Common.{◌<◌, length, ap, arith}
use Rattle.rpm_header.proofs.Vocabulary.{Header}
use Rattle.rpm_header.proofs.Each.{length-entries, tag-entries}
use Rattle.rpm_header.proofs.view.View.tag_at.Goals as goal

pub u32_at-requires : goal.u32_at-requires
u32_at-requires c =
    let below : c.args.i < c.self.inside.count =
    omega (arith, length-entries c.self.inside.count c.self.inside.blob.now, ap (λ (h : Header). length h.entries) c.self.view_is) in
    omega (arith, c.self.invariant.cut.whole)

pub returns : goal.returns
returns c =
    let below : c.args.i < c.self.inside.count =
    omega (arith, length-entries c.self.inside.count c.self.inside.blob.now, ap (λ (h : Header). length h.entries) c.self.view_is) in
    rw (← c.self.view_is, c.u32_at.ensures) (tag-entries c.self.inside.count c.self.inside.blob.now c.args.i below)
