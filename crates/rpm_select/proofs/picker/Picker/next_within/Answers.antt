use Rattle.rpm_select.proofs.Vocabulary.{AsksPackages, package_cost, cost_more, packages_cost_to, cost_up, Files, looks_then, number_in, OneOf, packages, Pkg, Reach}
use Rattle.rpm_select.proofs.Vocabulary.{reach_more, reach_of, reach_to, reach_up, Serves, store_of}
use Rattle.std.proofs.Common.{◌-◌, Some, None, Ok, sym, ap, subst, ◌∙◌, arith, ◌≡◌, ℕ}
use Rattle.std.specs.FinMap as finite
use Rattle.rpm_select.proofs.Asks.{asks_done, asks_then, asks_failed}
use Rattle.rpm_select.proofs.Owning.{own_then, own_last, own_all}
use Rattle.rpm_select.proofs.Passing.{found_one, passed_next, picked_next, none_next, none_to}
use Rattle.rpm_select.proofs.Picking.{any_to, left, above_picks}
use Rattle.rpm_select.proofs.picker.Picker.next_within.Goals.{in-Some+then-next-last, in_default}
use Rattle.rpm_select.proofs.picker.Picker.next_within.Goals as goal

pub loop-next-preserved : goal.loop-next-preserved
loop-next-preserved g c =
    let r = reach_of c.self.inside.reach in
    let db = c.args.db.now in
    let n = c.args.n in
    let k = c.loop-next.passed in
    let m = c.in-Some.next in
    let sel = c.args.selection.now in
    let inv = c.loop-next.invariant in
    let done = c.in-Ok-None.ensures in
    let more = cost_more db k m c.in-Some.ensures.0 in
    record {
      keeps = done.asks.kept;
      later = omega (arith, inv.later, c.in-Some.ensures.0);
      below = c.if-next-last.false;
      more = omega (arith, more, inv.more);
      looks =
          looks_then g.D.Disk Pkg g.met.D.Disk.follows_trans
          (packages_cost_to k db - packages_cost_to n db) (package_cost m db)
          (packages_cost_to m db - packages_cost_to n db) c.args.disk.now c.loop-next.disk c.pick.new.disk
          (omega (arith, more, inv.more)) inv.looks done.asks.looks;
      own =
          own_then c.args.selection.now db k m (g.D.Disk.bytes_read c.args.disk.now Pkg) (g.D.Disk.bytes_read c.loop-next.disk Pkg)
          (g.D.Disk.bytes_read c.pick.new.disk Pkg) c.in-Some.ensures.0
          inv.own done.asks.looks.reads.pkg done.unread;
      up = omega (arith, inv.up, reach_more r db k m c.in-Some.ensures);
      reads = omega (arith, inv.reads, inv.up, done.asks.looks.reads.pkg, reach_more r db k m c.in-Some.ensures);
      faults = omega (arith, inv.faults, done.asks.cause.later);
      same = λ told serves.
          let file = (g.D.Disk.files c.args.disk.now).pkg in
          let one = subst (λ (f : Files). OneOf sel m (finite.get (packages f.pkg (store_of db)) m) (Ok None)) (inv.looks.untouched told).same
          (rw c.in-Ok-None.field-0-is at (done.told told)) in
          inv.same told serves ∙ passed_next r file db sel serves k m c.in-Some.ensures one;
    }

pub returns-in-Ok-Some-clause-told : goal.returns-in-Ok-Some-clause-told
returns-in-Ok-Some-clause-told g c = λ told serves.
    let db = c.args.db.now in
    let k = c.loop-next.passed in
    let m = c.in-Some.next in
    let sel = c.args.selection.now in
    let inv = c.loop-next.invariant in
    let file = (g.D.Disk.files c.args.disk.now).pkg in
    let all = subst (λ (x : Reach). Serves x (packages file (store_of db)) sel) (sym c.self.view_is) serves in
    let one = subst (λ (f : Files). OneOf sel m (finite.get (packages f.pkg (store_of db)) m) (Ok (Some c.in-Ok-Some.picked))) (inv.looks.untouched told).same
    (rw c.in-Ok-Some.field-0-is at (c.in-Ok-Some.ensures.told told)) in
    let found = found_one (packages file (store_of db)) sel m c.in-Ok-Some.picked one in (
      left (packages file (store_of db)) sel m,
      above_picks (packages file (store_of db)) sel c.args.n ∙ inv.same told all
          ∙ picked_next (reach_of c.self.inside.reach) file db sel all k m c.in-Ok-Some.picked c.in-Some.ensures found,
    )

pub returns-in-Ok-Some-clause-asks : goal.returns-in-Ok-Some-clause-asks
returns-in-Ok-Some-clause-asks g c =
    let db = c.args.db.now in
    let n = c.args.n in
    let k = c.loop-next.passed in
    let m = c.in-Some.next in
    let inv = c.loop-next.invariant in
    let picked = c.in-Ok-Some.picked in
    let number = rw c.in-Ok-Some.field-0-is at c.in-Ok-Some.ensures.numbered in
    subst (λ (i : ℕ). AsksPackages g.D.Disk (packages_cost_to i db - packages_cost_to n db) c.args.disk.now c.pick.new.disk db (Ok (Some picked))) (sym number)
    (asks_then g.D.Disk g.met.D.Disk.follows_trans (packages_cost_to k db - packages_cost_to n db) (package_cost m db)
    (packages_cost_to m db - packages_cost_to n db) c.args.disk.now
    c.loop-next.disk c.pick.new.disk db (omega (arith, cost_more db k m c.in-Some.ensures.0, inv.more)) inv.looks inv.faults (Some picked)
    c.in-Ok-Some.ensures.asks)

pub returns-in-Err-clause-asks : goal.returns-in-Err-clause-asks
returns-in-Err-clause-asks g c =
    let db = c.args.db.now in
    let n = c.args.n in
    let k = c.loop-next.passed in
    let m = c.in-Some.next in
    let inv = c.loop-next.invariant in
    let up = cost_up db m c.args.last c.if-next-last.false in
    asks_failed g.D.Disk g.met.D.Disk.follows_trans (packages_cost_to k db - packages_cost_to n db) (package_cost m db)
    (packages_cost_to c.args.last db - packages_cost_to n db) c.args.disk.now
    c.loop-next.disk c.pick.new.disk db (omega (arith, cost_more db k m c.in-Some.ensures.0, up, inv.more)) inv.looks inv.faults _ _
    c.in-Err.fault c.in-Err.ensures.asks

pub returns-clause-told : goal.returns-clause-told
returns-clause-told g c = λ told serves.
    let r = reach_of c.self.inside.reach in
    let file = (g.D.Disk.files c.args.disk.now).pkg in
    let db = c.args.db.now in
    let sel = c.args.selection.now in
    let k = c.loop-next.passed in
    let inv = c.loop-next.invariant in
    let all = subst (λ (x : Reach). Serves x (packages file (store_of db)) sel) (sym c.self.view_is) serves in
    let here = above_picks (packages file (store_of db)) sel c.args.n ∙ inv.same told all in
    elim c.match-next_number.branch [
      | in-Some+then-next-last w ↦ (
        ap (any_to c.args.last) here
            ∙ none_to r file db sel all c.args.last k w.in-Some.next w.in-Some.ensures inv.below w.if-next-last.true,
        λ greatest. absurd (omega (arith, greatest, w.if-next-last.true)),
      )
      | in_default w ↦
          (let none = here ∙ none_next r file db sel all k w.in_default.ensures in
          (ap (any_to c.args.last) none, λ greatest. none))
    ]

pub returns-clause-reads : goal.returns-clause-reads
returns-clause-reads g c =
    let r = reach_of c.self.inside.reach in
    let db = c.args.db.now in
    omega (
      arith,
      c.loop-next.invariant.reads,
      reach_up r db c.loop-next.passed c.args.last c.loop-next.invariant.below,
      ap (λ (x : Reach). reach_to c.args.n x db) c.self.view_is,
      ap (λ (x : Reach). reach_to c.args.last x db) c.self.view_is,
    )

pub returns-in-Err-clause-reads : goal.returns-in-Err-clause-reads
returns-in-Err-clause-reads g c =
    let r = reach_of c.self.inside.reach in
    let db = c.args.db.now in
    let m = c.in-Some.next in
    omega (
      arith,
      c.loop-next.invariant.reads,
      c.loop-next.invariant.up,
      c.in-Err.ensures.asks.looks.reads.pkg,
      reach_more r db c.loop-next.passed m c.in-Some.ensures,
      reach_up r db m c.args.last c.if-next-last.false,
      ap (λ (x : Reach). reach_to c.args.n x db) c.self.view_is,
      ap (λ (x : Reach). reach_to c.args.last x db) c.self.view_is,
    )

pub returns-in-Ok-Some-clause-reads : goal.returns-in-Ok-Some-clause-reads
returns-in-Ok-Some-clause-reads g c =
    let r = reach_of c.self.inside.reach in
    let db = c.args.db.now in
    let m = c.in-Some.next in
    let number = rw c.in-Ok-Some.field-0-is at c.in-Ok-Some.ensures.numbered in
    let same : reach_to (number_in c.in-Ok-Some.picked) c.args.self.now db ≡ reach_to m r db =
    ap (λ (i : ℕ). reach_to i c.args.self.now db) number ∙ ap (λ (x : Reach). reach_to m x db) (sym c.self.view_is) in
    omega (
      arith,
      same,
      c.loop-next.invariant.reads,
      c.loop-next.invariant.up,
      c.in-Ok-Some.ensures.asks.looks.reads.pkg,
      reach_more r db c.loop-next.passed m c.in-Some.ensures,
      ap (λ (x : Reach). reach_to c.args.n x db) c.self.view_is,
    )

pub returns-clause-asks : goal.returns-clause-asks
returns-clause-asks g c =
    let db = c.args.db.now in
    let inv = c.loop-next.invariant in
    let k = c.loop-next.passed in
    let n = c.args.n in
    asks_done g.D.Disk (packages_cost_to k db - packages_cost_to n db)
    (packages_cost_to c.args.last db - packages_cost_to n db) c.args.disk.now c.loop-next.disk db None
    (omega (arith, cost_up db k c.args.last inv.below)) inv.keeps inv.looks inv.faults

pub returns-in-Ok-Some-clause-own : goal.returns-in-Ok-Some-clause-own
returns-in-Ok-Some-clause-own g c =
    let done = c.in-Ok-Some.ensures in
    own_last c.args.selection.now c.args.db.now c.loop-next.passed c.in-Some.next _ _ _ c.in-Some.ensures.0 c.loop-next.invariant.own
    done.asks.looks.reads.pkg done.unread

pub returns-in-Err-clause-own : goal.returns-in-Err-clause-own
returns-in-Err-clause-own g c =
    let done = c.in-Err.ensures in
    own_last c.args.selection.now c.args.db.now c.loop-next.passed c.in-Some.next _ _ _ c.in-Some.ensures.0 c.loop-next.invariant.own
    done.asks.looks.reads.pkg done.unread

pub returns-clause-own : goal.returns-clause-own
returns-clause-own g c =
    own_all c.args.selection.now c.args.db.now c.loop-next.passed (g.D.Disk.bytes_read c.args.disk.now Pkg)
    (g.D.Disk.bytes_read c.loop-next.disk Pkg) c.loop-next.invariant.own

pub returns-in-Ok-Some-clause-rises : goal.returns-in-Ok-Some-clause-rises
returns-in-Ok-Some-clause-rises g c =
    let number = rw c.in-Ok-Some.field-0-is at c.in-Ok-Some.ensures.numbered in
    omega (arith, c.loop-next.invariant.later, c.in-Some.ensures.0, number)

pub returns-in-Ok-Some-clause-up_to : goal.returns-in-Ok-Some-clause-up_to
returns-in-Ok-Some-clause-up_to g c =
    let number = rw c.in-Ok-Some.field-0-is at c.in-Ok-Some.ensures.numbered in
    omega (arith, c.if-next-last.false, number)
