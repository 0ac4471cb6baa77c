use Rattle.rpm_select.proofs.Vocabulary.{package_cost, cost_more, cost_some, Files, IsHeld, looks_then, packages, picks_at, Pkg, reach_all, reach_more, reach_some, reach_to, reaches}
use Rattle.rpm_select.proofs.Vocabulary.{Recalls, Recent, store_of}
use Rattle.std.proofs.Common.{◌≡◌, ℕ, ◌<◌, ◌-◌, true, false, Some, None, refl, sym, subst, ◌∙◌, arith}
use Rattle.std.specs.FinMap as finite
use Rattle.rpm_select.proofs.Asks.{asks_done, asks_then, asks_failed}
use Rattle.rpm_select.proofs.Passing.{passed_next, taken_next, none_next}
use Rattle.rpm_select.proofs.Picking.{left, above_picks}
use Rattle.rpm_select.proofs.Recalling.{passed_at, at_start}
use Rattle.rpm_select.proofs.picker.Picker.next_number_after.Goals as goal

pub loop-next-preserved : goal.loop-next-preserved
loop-next-preserved g c =
    let db = c.args.db.now in
    let r = c.args.self.now in
    let n = c.args.n in
    let k = c.loop-next.passed in
    let m = c.in-Some.next in
    let sel = c.args.selection.now in
    let inv = c.loop-next.invariant in
    let done = c.in-Ok-false.ensures in
    let more = reach_more r db k m c.in-Some.ensures in
    let costs = cost_more db k m c.in-Some.ensures.0 in
    record {
      keeps = done.asks.kept;
      later = omega (arith, inv.later, c.in-Some.ensures.0);
      more = omega (arith, costs, inv.more);
      within = omega (arith, costs, inv.more, inv.within, done.asks.looks.reads.pkg);
      up = omega (arith, inv.up, more);
      looks =
          looks_then g.D.Disk Pkg g.met.D.Disk.follows_trans
          (reach_to k r db - reach_to n r db) (package_cost m db) (reach_to m r db - reach_to n r db) c.args.disk.now c.loop-next.disk c.picks.new.disk
          (omega (arith, more, inv.up)) inv.looks done.asks.looks;
      faults = omega (arith, inv.faults, done.asks.cause.later);
      start = λ at. (let lt : k < m = c.in-Some.ensures.0 in absurd (omega (arith, at, lt, inv.later)));
      reached = λ lt. c.in-Some.ensures.1;
      recalls = λ told holds.
          subst (λ (f : Files). Recalls (packages f.pkg (store_of db)) c.loop-next.recent → Recalls (packages f.pkg (store_of db)) c.picks.new.self)
          (inv.looks.untouched told).same (done.recalls told) (inv.recalls told holds);
      same = λ told serves holds.
          let file = (g.D.Disk.files c.args.disk.now).pkg in
          let answer = subst (λ (f : Files). Recalls (packages f.pkg (store_of db)) c.loop-next.recent
          → false ≡ picks_at sel m (finite.get (packages f.pkg (store_of db)) m)) (inv.looks.untouched told).same
          (rw c.in-Ok-false.field-0-test at (done.told told)) (inv.recalls told holds) in
          inv.same told serves holds
          ∙ passed_next r file db sel serves k m c.in-Some.ensures (passed_at sel m (finite.get (packages file (store_of db)) m) answer);
    }

pub returns-in-Ok-true-clause-told : goal.returns-in-Ok-true-clause-told
returns-in-Ok-true-clause-told g c = λ told serves holds.
    let db = c.args.db.now in
    let k = c.loop-next.passed in
    let m = c.in-Some.next in
    let sel = c.args.selection.now in
    let inv = c.loop-next.invariant in
    let file = (g.D.Disk.files c.args.disk.now).pkg in
    let all = packages file (store_of db) in
    let answer = subst (λ (f : Files). Recalls (packages f.pkg (store_of db)) c.loop-next.recent
    → true ≡ picks_at sel m (finite.get (packages f.pkg (store_of db)) m)) (inv.looks.untouched told).same
    (rw c.in-Ok-true.field-0-test at (c.in-Ok-true.ensures.told told)) (inv.recalls told holds) in
    let found = taken_next c.args.self.now file db sel serves k m (finite.get all m) c.in-Some.ensures refl answer in
    (found.0, left all sel m, above_picks all sel c.args.n ∙ inv.same told serves holds ∙ found.1)

pub returns-in-Ok-true-clause-asks : goal.returns-in-Ok-true-clause-asks
returns-in-Ok-true-clause-asks g c =
    let db = c.args.db.now in
    let r = c.args.self.now in
    let n = c.args.n in
    let k = c.loop-next.passed in
    let m = c.in-Some.next in
    let inv = c.loop-next.invariant in
    let more = reach_more r db k m c.in-Some.ensures in
    asks_then g.D.Disk g.met.D.Disk.follows_trans (reach_to k r db - reach_to n r db) (package_cost m db) (reach_to m r db - reach_to n r db) c.args.disk.now
    c.loop-next.disk c.picks.new.disk db (omega (arith, more, inv.up)) inv.looks inv.faults (Some m) c.in-Ok-true.ensures.asks

pub returns-in-Ok-true-clause-within : goal.returns-in-Ok-true-clause-within
returns-in-Ok-true-clause-within g c =
    let inv = c.loop-next.invariant in
    omega (
      arith,
      cost_more c.args.db.now c.loop-next.passed c.in-Some.next c.in-Some.ensures.0,
      inv.more,
      inv.within,
      c.in-Ok-true.ensures.asks.looks.reads.pkg,
    )

pub returns-in-Err-clause-within : goal.returns-in-Err-clause-within
returns-in-Err-clause-within g c =
    let db = c.args.db.now in
    let m = c.in-Some.next in
    let inv = c.loop-next.invariant in
    omega (arith, cost_more db c.loop-next.passed m c.in-Some.ensures.0, cost_some db m, inv.more, inv.within, c.in-Err.ensures.asks.looks.reads.pkg)

pub returns-clause-within : goal.returns-clause-within
returns-clause-within g c =
    let inv = c.loop-next.invariant in
    omega (arith, cost_some c.args.db.now c.loop-next.passed, inv.more, inv.within)

pub returns-in-Ok-true-clause-held : goal.returns-in-Ok-true-clause-held
returns-in-Ok-true-clause-held g c = (rw c.in-Ok-true.field-0-test at c.in-Ok-true.ensures.held) refl

pub returns-in-Ok-true-clause-unread : goal.returns-in-Ok-true-clause-unread
returns-in-Ok-true-clause-unread g c = λ m held next is.
    let inv = c.loop-next.invariant in
    let k = c.loop-next.passed in
    let same : c.in-Some.next ≡ m = cc in
    let lt : k < m = omega (arith, c.in-Some.ensures.0, same) in
    let start = inv.start (at_start (reaches c.args.self.now c.args.db.now) c.args.n k m inv.later inv.reached next lt) in
    let before : IsHeld m c.loop-next.recent = subst (λ (r : Recent). IsHeld m r) (sym start.1) held in
    c.in-Ok-true.ensures.unread (subst (λ (i : ℕ). IsHeld i c.loop-next.recent) (sym same) before) ∙ start.0

pub returns-in-Ok-true-clause-rises : goal.returns-in-Ok-true-clause-rises
returns-in-Ok-true-clause-rises g c = omega (arith, c.loop-next.invariant.later, c.in-Some.ensures.0)

pub returns-in-Ok-true-clause-recalls : goal.returns-in-Ok-true-clause-recalls
returns-in-Ok-true-clause-recalls g c = λ told holds.
    let db = c.args.db.now in
    let inv = c.loop-next.invariant in
    subst (λ (f : Files). Recalls (packages f.pkg (store_of db)) c.loop-next.recent → Recalls (packages f.pkg (store_of db)) c.picks.new.self)
    (inv.looks.untouched told).same (c.in-Ok-true.ensures.recalls told) (inv.recalls told holds)

pub returns-in-Err-clause-recalls : goal.returns-in-Err-clause-recalls
returns-in-Err-clause-recalls g c = λ told holds.
    let db = c.args.db.now in
    let inv = c.loop-next.invariant in
    subst (λ (f : Files). Recalls (packages f.pkg (store_of db)) c.loop-next.recent → Recalls (packages f.pkg (store_of db)) c.picks.new.self)
    (inv.looks.untouched told).same (c.in-Err.ensures.recalls told) (inv.recalls told holds)

pub returns-in-Err-clause-asks : goal.returns-in-Err-clause-asks
returns-in-Err-clause-asks g c =
    let db = c.args.db.now in
    let r = c.args.self.now in
    let n = c.args.n in
    let k = c.loop-next.passed in
    let m = c.in-Some.next in
    let inv = c.loop-next.invariant in
    let more = reach_more r db k m c.in-Some.ensures in
    asks_failed g.D.Disk g.met.D.Disk.follows_trans (reach_to k r db - reach_to n r db) (package_cost m db) (reach_all r db - reach_to n r db) c.args.disk.now
    c.loop-next.disk c.picks.new.disk db (omega (arith, more, reach_some r db m, inv.up)) inv.looks inv.faults _ _ c.in-Err.fault c.in-Err.ensures.asks

pub returns-clause-told : goal.returns-clause-told
returns-clause-told g c = λ told serves holds.
    let file = (g.D.Disk.files c.args.disk.now).pkg in
    let db = c.args.db.now in
    above_picks (packages file (store_of db)) c.args.selection.now c.args.n ∙ c.loop-next.invariant.same told serves holds
    ∙ none_next c.args.self.now file db c.args.selection.now serves c.loop-next.passed c.in_default.ensures

pub returns-clause-asks : goal.returns-clause-asks
returns-clause-asks g c =
    let db = c.args.db.now in
    let r = c.args.self.now in
    let n = c.args.n in
    let k = c.loop-next.passed in
    let inv = c.loop-next.invariant in
    asks_done g.D.Disk (reach_to k r db - reach_to n r db) (reach_all r db - reach_to n r db) c.args.disk.now c.loop-next.disk db None
    (omega (arith, reach_some r db k)) inv.keeps inv.looks inv.faults
