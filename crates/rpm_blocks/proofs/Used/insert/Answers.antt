use Rattle.std.proofs.Common.{◌≤◌, ◌∷◌, List, subst, ap, sym, arith, ◌∙◌}
use Rattle.rpm_blocks.proofs.Vocabulary.{Blocks, insert, IsFree, IsPlace, IsRange, Range, range, with_range}
use Rattle.rpm_blocks.proofs.Same.{same_insert, same_cons, same_sym, same_trans}
use Rattle.rpm_blocks.proofs.Listed.{inserted_apart, inserted_is_with_range}
use Rattle.rpm_blocks.proofs.Used.insert.Goals as goal

-- a block that is in no range is in no run
pub join-requires-clause-free : goal.join-requires-clause-free
join-requires-clause-free c block has =
    let free : IsFree c.self.inside.ranges.items (range c.args.start c.args.count) = subst
    (λ (v : Blocks). IsFree v.ranges (range c.args.start c.args.count)) (sym c.self.view_is) c.requires.free in
    c.self.invariant.same.there block (free block has)

pub invariant_of-self : goal.invariant_of-self
invariant_of-self c =
    let l = c.self.inside.ranges.items in
    let r = range c.args.start c.args.count in
    let at = c.place-at.result in
    let free : IsFree l r = subst (λ (v : Blocks). IsFree v.ranges (range c.args.start c.args.count)) (sym c.self.view_is) c.requires.free in
    let is_range : IsRange r = record { filled = c.requires.filled; bounded = c.requires.bounded } in
    let place : IsPlace l r.start at = rw (← c.deref.ensures.value) c.place-at.ensures in
    let m = c.self.inside.runs.items in
    let new : List Range = insert l at r in
    let both : List Range = r ∷ l in
    let runs : List Range = r ∷ m in
    let same = same_trans new both c.join.new.runs.items (same_sym both new (same_insert l at r)) (same_trans both runs c.join.new.runs.items
    (same_cons r l m c.self.invariant.same) c.join.ensures.same) in
    let spare : 1 ≤ c.self.inside.spare = subst (λ (v : Blocks). 1 ≤ v.spare) (sym c.self.view_is) c.requires.room in
    record {
      ranges = rw c.put.ensures.items (inserted_apart l c.self.invariant.ranges r at is_range place free);
      runs = c.join.ensures.apart;
      same = rw c.put.ensures.items same;
      room = omega (arith, spare);
      runs_room = omega (arith, spare);
    }

pub returns-clause-ranges : goal.returns-clause-ranges
returns-clause-ranges c =
    let l = c.self.inside.ranges.items in
    let r = range c.args.start c.args.count in
    let at = c.place-at.result in
    let free : IsFree l r = subst (λ (v : Blocks). IsFree v.ranges (range c.args.start c.args.count)) (sym c.self.view_is) c.requires.free in
    let is_range : IsRange r = record { filled = c.requires.filled; bounded = c.requires.bounded } in
    let place : IsPlace l r.start at = rw (← c.deref.ensures.value) c.place-at.ensures in
    let listed = inserted_is_with_range l c.self.invariant.ranges r at is_range place free in
    c.put.ensures.items ∙ listed ∙ ap (λ (v : Blocks). with_range r v.ranges) c.self.view_is

pub returns-clause-apart : goal.returns-clause-apart
returns-clause-apart c =
    let l = c.self.inside.ranges.items in
    let r = range c.args.start c.args.count in
    let at = c.place-at.result in
    let free : IsFree l r = subst (λ (v : Blocks). IsFree v.ranges (range c.args.start c.args.count)) (sym c.self.view_is) c.requires.free in
    let is_range : IsRange r = record { filled = c.requires.filled; bounded = c.requires.bounded } in
    let place : IsPlace l r.start at = rw (← c.deref.ensures.value) c.place-at.ensures in
    rw c.put.ensures.items (inserted_apart l c.self.invariant.ranges r at is_range place free)
