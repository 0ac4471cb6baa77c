use Rattle.std.proofs.Common.{◌≡◌, ◌-◌, length, length-drop, take, drop, subst, arith}
use Rattle.std.proofs.lemmas.List.{take_all}
use Rattle.rpm_blocks.proofs.Vocabulary.{Blocks, IsLeastFit, IsPlace}
use Rattle.rpm_blocks.proofs.Fits.{least_from}
use Rattle.rpm_blocks.proofs.Used.first_fit.Goals as goal

-- what fits among the runs from the first that may reach `from` fits among the ranges
pub returns-clause-least : goal.returns-clause-least
returns-clause-least c =
    let l = c.self.inside.ranges.items in
    let m = c.self.inside.runs.items in
    let n = c.place.result - 1 in
    let place : IsPlace m c.args.from c.place.result = rw (← c.deref.ensures.value) c.place.ensures in
    let whole : take (length m - n) (drop n m) ≡ drop n m = take_all (length m - n) (drop n m) (omega (arith, length-drop n m)) in
    let rest : IsLeastFit (take (length m - n) (drop n m)) c.args.count c.args.from c.least_fit.result = rw (
      ← c.deref-2.ensures.value,
      ← c.saturating_sub-first.ensures,
    ) c.least_fit.ensures in
    let least = least_from l m c.self.invariant.same c.self.invariant.runs c.args.count c.args.from c.place.result place c.least_fit.result
    (rw (← whole) rest) in
    subst (λ (v : Blocks). IsLeastFit v.ranges c.args.count c.args.from c.least_fit.result) c.self.view_is least
