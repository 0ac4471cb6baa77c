use Rattle.std.proofs.Common.{◌-◌, ◌^◌, arith}
use Rattle.rpm_select.proofs.Vocabulary.{above, cost_after, packages_cost_to, upper_end, looks_more, packages, picks, Pkg, store_of}
use Rattle.rpm_select.proofs.Within.{cost_within, next_is, reach_within}
use Rattle.rpm_select.proofs.picker.Picker.next_after.Goals as goal

pub returns-clause-told : goal.returns-clause-told
returns-clause-told g c = λ told serves.
    let db = c.args.db.now in
    next_is (above c.args.n (picks (packages (g.D.Disk.files c.args.disk.now).pkg (store_of db)) c.args.selection.now)) c.next_within.result
    (c.next_within.ensures.told told serves)

pub returns-clause-reads : goal.returns-clause-reads
returns-clause-reads g c =
    omega (arith, c.next_within.ensures.reads, reach_within c.args.n (2 ^ 32 - 1) c.args.self.now c.args.db.now c.next_within.result)

pub returns-clause-asks : goal.returns-clause-asks
returns-clause-asks g c =
    let db = c.args.db.now in
    let n = c.args.n in
    let r = c.next_within.result in
    let done = c.next_within.ensures.asks in
    record {
      kept = done.kept;
      looks =
          looks_more g.D.Disk Pkg (packages_cost_to (upper_end (2 ^ 32 - 1) r) db - packages_cost_to n db)
          (cost_after n db r) c.args.disk.now c.next_within.new.disk
          (cost_within n (2 ^ 32 - 1) db r) done.looks;
      cause = done.cause;
      unbroken = done.unbroken;
    }
