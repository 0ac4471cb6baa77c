use Rattle.std.proofs.Common.{◌≡◌, ◌+◌, ◌<◌, List, [], ◌∷◌, length, false, sym, ap, ◌∙◌, inl, inr, arith}
use Rattle.rpm_db.proofs.Vocabulary.{Row, row_nth, same_row, times, times-append}
use Rattle.rpm_db.proofs.Apart.{apart_none, apart_both, apart_drop, apart_add, without_end}
use Rattle.rpm_hindex.proofs.laws.RowLaws.{same_is}
use Rattle.rpm_db.proofs.Shared.{times_next}
use Rattle.rpm_db.proofs.netting.parted.Goals as goal
use Rattle.rpm_db.proofs.netting.parted.Goals.{then-loop-i-test+else-j-len, else-loop-i-test}

pub loop-i-init : goal.loop-i-init
loop-i-init c = record {
  drops_in = omega arith;
  adds_in = omega arith;
  balanced = λ row. ap (λ (xs : List Row). times row [] + times row xs) (c.new-new.ensures ∙ sym c.new-gone.ensures);
  apart = apart_none c.new-gone.result c.new-new.result c.args.drops.now c.args.adds.now c.new-gone.ensures c.new-new.ensures;
}

pub loop-i-preserved-then-is_shared : goal.loop-i-preserved-then-is_shared
loop-i-preserved-then-is_shared c =
    let drops = c.args.drops.now in
    let adds = c.args.adds.now in
    let i = c.loop-i.i in
    let j = c.loop-i.j in
    let inv = c.loop-i.invariant in
    let in_drops : i < length drops = omega (arith, c.loop-i-test.true, c.len.ensures) in
    let in_adds : j < length adds = omega (arith, c.if-j-len.true, c.len-in-loop-i.ensures) in
    let is : row_nth drops i ≡ row_nth adds j = same_is (row_nth drops i) (row_nth adds j) (sym c.is_shared.ensures ∙ c.if-is_shared.true) in
    record {
      drops_in = omega (arith, in_drops);
      adds_in = omega (arith, in_adds);
      balanced = λ row.
          omega (arith, inv.balanced row, times_next row drops i in_drops, times_next row adds j in_adds, ap (λ (r : Row). times row (r ∷ [])) is);
      apart = apart_both drops adds i j in_drops in_adds c.loop-i.gone c.loop-i.new inv.apart;
    }

pub loop-i-preserved-then-comes_first : goal.loop-i-preserved-then-comes_first
loop-i-preserved-then-comes_first c =
    let drops = c.args.drops.now in
    let adds = c.args.adds.now in
    let i = c.loop-i.i in
    let j = c.loop-i.j in
    let inv = c.loop-i.invariant in
    let in_drops : i < length drops = omega (arith, c.loop-i-test.true, c.len.ensures) in
    let in_adds : j < length adds = omega (arith, c.if-j-len.true, c.len-in-loop-i.ensures) in
    let more : (row : Row) → times row c.push_row.new.rows ≡ times row c.loop-i.gone + times row (row_nth drops i ∷ []) =
    λ row. ap (times row) c.in_ok-push_row.ensures ∙ times-append row c.loop-i.gone (row_nth drops i ∷ []) in
    record {
      drops_in = omega (arith, in_drops);
      adds_in = inv.adds_in;
      balanced = λ row. omega (arith, inv.balanced row, times_next row drops i in_drops, more row);
      apart =
          apart_drop drops adds i j in_drops in_adds c.loop-i.gone c.loop-i.new c.push_row.new.rows c.in_ok-push_row.ensures c.requires.adds
          (sym c.comes_first.ensures ∙ c.if-comes_first.true) inv.apart;
    }

pub loop-i-preserved : goal.loop-i-preserved
loop-i-preserved c =
    let drops = c.args.drops.now in
    let adds = c.args.adds.now in
    let i = c.loop-i.i in
    let j = c.loop-i.j in
    let inv = c.loop-i.invariant in
    let in_drops : i < length drops = omega (arith, c.loop-i-test.true, c.len.ensures) in
    let in_adds : j < length adds = omega (arith, c.if-j-len.true, c.len-in-loop-i.ensures) in
    let other : same_row (row_nth drops i) (row_nth adds j) ≡ false = sym c.is_shared.ensures ∙ c.if-is_shared.false in
    let more : (row : Row) → times row c.push_row-else-comes_first.new.rows ≡ times row c.loop-i.new + times row (row_nth adds j ∷ []) =
    λ row. ap (times row) c.in_ok-push_row-2.ensures ∙ times-append row c.loop-i.new (row_nth adds j ∷ []) in
    record {
      drops_in = inv.drops_in;
      adds_in = omega (arith, in_adds);
      balanced = λ row. omega (arith, inv.balanced row, times_next row adds j in_adds, more row);
      apart =
          apart_add drops adds i j in_drops in_adds c.loop-i.gone c.loop-i.new c.push_row-else-comes_first.new.rows c.in_ok-push_row-2.ensures
          c.requires.drops (sym c.comes_first.ensures ∙ c.if-comes_first.false) other inv.apart;
    }

pub returns : goal.returns
returns c =
    without_end c.args.drops.now c.args.adds.now c.loop-i.i c.loop-i.j c.loop-i.gone c.loop-i.new c.push_rest.new.rows c.push_rest-2.new.rows
    c.in_ok-push_rest.ensures c.in_ok-push_rest-2.ensures
    (elim c.loop-i-test.branch [
      | then-loop-i-test+else-j-len w ↦ inr (omega (arith, w.if-j-len.false, w.len-in-loop-i.ensures))
      | else-loop-i-test w ↦ inl (omega (arith, w.loop-i-test.false, c.len.ensures))
    ]) c.loop-i.invariant.balanced c.loop-i.invariant.apart
