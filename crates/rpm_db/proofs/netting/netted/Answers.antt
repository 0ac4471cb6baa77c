use Rattle.std.proofs.Common.{refl, inl, inr, arith}
use Rattle.rpm_db.proofs.Ordered.{netted_none, netted_sorted}
use Rattle.rpm_db.proofs.Results.{map_if_ok}
use Rattle.rpm_db.proofs.netting.netted.Goals as goal

pub returns-then-len-eq0 : goal.returns-then-len-eq0
returns-then-len-eq0 c = netted_none c.args.change.drops c.args.change.adds _ refl (inl (omega (arith, c.len.ensures, c.if-len-eq0.true)))

pub returns-then-len-eq0-2 : goal.returns-then-len-eq0-2
returns-then-len-eq0-2 c =
    let adds = c.args.change.adds in
    netted_sorted c.args.change.drops adds c.in_ok-drops.drops adds _ c.in_ok-drops.ensures.same (λ row. refl)
    (netted_none c.in_ok-drops.drops adds _ refl (inr (omega (arith, c.len-2.ensures, c.if-len-eq0-2.true))))

pub returns : goal.returns
returns c =
    map_if_ok c.parted.result (λ net both. netted_sorted c.args.change.drops c.args.change.adds c.in_ok-drops.drops c.in_ok-adds.adds net
    c.in_ok-drops.ensures.same c.in_ok-adds.ensures.same both) c.parted.ensures
