use Rattle.std.proofs.Common.{◌≡◌, ◌∷◌, List, subst, ap, sym, arith, ◌∙◌}
use Rattle.std.specs.Prelude.{SomeIndex}
use Rattle.rpm_blocks.proofs.Vocabulary.{Blocks, IsFree, IsPlace, Range, range_at, remove, without}
use Rattle.rpm_blocks.proofs.Same.{same_remove, same_sym, same_trans, same_without}
use Rattle.rpm_blocks.proofs.Edits.{apart_remove}
use Rattle.rpm_blocks.proofs.Parts.{read_at}
use Rattle.rpm_blocks.proofs.Listed.{found_in_range, removed_is_without, removed_free}
use Rattle.rpm_blocks.proofs.Used.remove.Goals as goal

-- a block of the range is in the runs, as each block that is used
pub cut-requires-clause-used : goal.cut-requires-clause-used
cut-requires-clause-used c block has unused =
    let l = c.self.inside.ranges.items in
    let at = c.place-at.result in
    let place : IsPlace l c.args.start at = rw (← c.deref.ensures.value) c.place-at.ensures in
    let begins : SomeIndex l (λ i. (range_at l i).start ≡ c.args.start) = subst (λ (v : Blocks). SomeIndex v.ranges (λ i. (range_at v.ranges i).start
    ≡ c.args.start)) (sym c.self.view_is) c.requires in
    let lt = found_in_range l c.self.invariant.ranges c.args.start at place begins in
    let is = read_at l at c.remove-range.result lt c.remove-range.ensures.value in
    c.self.invariant.same.back block unused at lt (rw (← is) has)

pub invariant_of-self : goal.invariant_of-self
invariant_of-self c =
    let l = c.self.inside.ranges.items in
    let m = c.self.inside.runs.items in
    let at = c.place-at.result in
    let place : IsPlace l c.args.start at = rw (← c.deref.ensures.value) c.place-at.ensures in
    let begins : SomeIndex l (λ i. (range_at l i).start ≡ c.args.start) = subst (λ (v : Blocks). SomeIndex v.ranges (λ i. (range_at v.ranges i).start
    ≡ c.args.start)) (sym c.self.view_is) c.requires in
    let lt = found_in_range l c.self.invariant.ranges c.args.start at place begins in
    let r = c.remove-range.result in
    let is = read_at l at r lt c.remove-range.ensures.value in
    let free : IsFree (remove l at) r = rw is (removed_free l c.self.invariant.ranges c.args.start at place begins) in
    let left : List Range = r ∷ remove l at in
    let runs : List Range = r ∷ c.cut.new.runs.items in
    let taken = same_trans left l runs (same_sym l left (same_remove l at r lt is)) (same_trans l m runs c.self.invariant.same c.cut.ensures.same) in
    record {
      ranges = rw c.remove-range.ensures.items (apart_remove 0 l c.self.invariant.ranges at lt);
      runs = c.cut.ensures.apart;
      same = rw c.remove-range.ensures.items (same_without r (remove l at) c.cut.new.runs.items taken free c.cut.ensures.free);
      room = omega (arith, c.self.invariant.room);
      runs_room = omega (arith, c.self.invariant.runs_room);
    }

pub returns-clause-ranges : goal.returns-clause-ranges
returns-clause-ranges c =
    let l = c.self.inside.ranges.items in
    let at = c.place-at.result in
    let place : IsPlace l c.args.start at = rw (← c.deref.ensures.value) c.place-at.ensures in
    let begins : SomeIndex l (λ i. (range_at l i).start ≡ c.args.start) = subst (λ (v : Blocks). SomeIndex v.ranges (λ i. (range_at v.ranges i).start
    ≡ c.args.start)) (sym c.self.view_is) c.requires in
    c.remove-range.ensures.items ∙ removed_is_without l c.self.invariant.ranges c.args.start at place begins
    ∙ ap (λ (v : Blocks). without c.args.start v.ranges) c.self.view_is

pub cut-requires-clause-range : goal.cut-requires-clause-range
cut-requires-clause-range c =
    let l = c.self.inside.ranges.items in
    let at = c.place-at.result in
    let place : IsPlace l c.args.start at = rw (← c.deref.ensures.value) c.place-at.ensures in
    let begins : SomeIndex l (λ i. (range_at l i).start ≡ c.args.start) = subst (λ (v : Blocks). SomeIndex v.ranges (λ i. (range_at v.ranges i).start
    ≡ c.args.start)) (sym c.self.view_is) c.requires in
    let lt = found_in_range l c.self.invariant.ranges c.args.start at place begins in
    let is = read_at l at c.remove-range.result lt c.remove-range.ensures.value in
    rw is (c.self.invariant.ranges.ranges at lt)
