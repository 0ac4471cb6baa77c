use Rattle.std.proofs.Common.{ℕ, ap, ◌∙◌, sym, subst, arith, Ok}
use Rattle.rpm_header.proofs.Vocabulary.{entries, IsBlobSound}
use Rattle.rpm_header.proofs.Opened.{own_sound}
use Rattle.rpm_header.proofs.view.View.of_checked.Goals as goal

pub u32_at-requires : goal.u32_at-requires
u32_at-requires c = omega (arith, (own_sound c.args.blob.now c.requires).0.cut.whole)

pub invariant_of-result : goal.invariant_of-result
invariant_of-result c = subst (λ (n : ℕ). IsBlobSound n c.args.blob.now) (sym c.u32_at.ensures) (own_sound c.args.blob.now c.requires).0

pub returns : goal.returns
returns c =
    (own_sound c.args.blob.now c.requires).1
    ∙ ap (λ (n : ℕ). Ok (record { blob = c.args.blob.now; entries = entries n c.args.blob.now })) (sym c.u32_at.ensures)
