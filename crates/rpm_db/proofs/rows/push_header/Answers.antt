use Rattle.std.proofs.Common.{◌≡◌, ◌++◌, ap, ◌∙◌, arith, ℕ, take}
use Rattle.rpm_db.proofs.Vocabulary.{flat_map, header_rows, kind_rows, kinds}
use Rattle.rpm_tags.specs.declared.kind.Kind.TheVariants as kind
use Rattle.rpm_db.proofs.Rowing.{kinds_more}
use Rattle.rpm_db.proofs.rows.push_header.Goals as goal

pub loop-kind-preserved : goal.loop-kind-preserved
loop-kind-preserved c = kinds_more (kind_rows c.args.number c.args.view.now) c.args.rows.now c.loop-kind.rows c.push_kind.new.rows c.loop-kind.kind-index
    kind.Name c.loop-kind-test.true c.loop-kind.invariant c.in_ok-push_kind.ensures

pub returns : goal.returns
unfolding header_rows
returns c =
    let last : c.loop-kind.kind-index ≡ 11 = omega (arith, c.loop-kind-test.false, c.loop-kind.auto.kind-index-end) in
    c.loop-kind.invariant ∙ ap (λ (n : ℕ). c.args.rows.now ++ flat_map (kind_rows c.args.number c.args.view.now) (take n kinds)) last
