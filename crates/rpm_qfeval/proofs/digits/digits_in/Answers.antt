use Rattle.std.proofs.Common.{◌≡◌, suc, ◌+◌, ◌-◌, ◌/◌, ◌<◌, ◌^◌, drop, refl, sym, ap, ◌∙◌, arith}
use Rattle.rpm_qfeval.proofs.Glyphs.{onto, onto_all, onto_more, onto_last, less_room, has_room, some_left}
use Rattle.rpm_qfeval.proofs.digits.digits_in.Goals as goal

pub loop-left-init : goal.loop-left-init
loop-left-init c = record {
  room = omega (arith, c.ranges.number.fits);
  some = omega arith;
  within = omega arith;
  long = refl;
  whole = onto_all c.args.base c.args.number;
}

pub loop-left-preserved : goal.loop-left-preserved
loop-left-preserved c =
    let l = c.loop-left in
    let k = l.start - 1 in
    let base = c.args.base in
    let low = c.requires.low in
    let room : l.left / base < 8 ^ k = less_room base l.left l.start low l.invariant.some l.invariant.room in
    let next : k + 1 ≡ l.start = omega (arith, l.invariant.some) in
    let step : l.start + 42 ≡ suc (k + 42) = omega (arith, l.invariant.some) in
    let here : drop k c.put_glyph.new.bytes ≡ _ = c.put_glyph.ensures in
    record {
      room = room;
      some = has_room (l.left / base) k (some_left base l.left (omega (arith, low)) c.loop-left-test.true) room;
      within = omega (arith, l.invariant.within);
      long = c.put_glyph.array_long;
      whole = ap (onto (k + 42) base (l.left / base)) (rw next at here) ∙ sym (onto_more (k + 42) base l.left (drop l.start l.bytes)
          (omega (arith, low)) c.loop-left-test.true) ∙ rw step at l.invariant.whole;
    }

pub overflow_sub-start-2 : goal.overflow_sub-start-2
overflow_sub-start-2 c = omega (arith, c.loop-left.invariant.some)

pub returns : goal.returns
returns c =
    let l = c.loop-left in
    let k = l.start - 1 in
    let next : k + 1 ≡ l.start = omega (arith, l.invariant.some) in
    let step : l.start + 42 ≡ suc (k + 42) = omega (arith, l.invariant.some) in
    rw next at c.put_glyph-2.ensures ∙ sym (onto_last (k + 42) c.args.base l.left (drop l.start l.bytes) c.loop-left-test.false) ∙ rw step at l.invariant.whole
