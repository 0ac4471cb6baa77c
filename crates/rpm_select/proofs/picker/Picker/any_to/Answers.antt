use Rattle.std.proofs.Common.{◌-◌, Ok, ◌∙◌, arith}
use Rattle.rpm_select.proofs.Vocabulary.{above, packages_cost_to, cost_up, upper_end, looks_none, packages, picks, Pkg, reach_up, store_of}
use Rattle.rpm_select.proofs.Asks.{asks_then, asks_failed}
use Rattle.rpm_select.proofs.Within.{any_is, end_within}
use Rattle.rpm_select.proofs.picker.Picker.any_to.Goals as goal

pub returns-in-Ok-clause-told : goal.returns-in-Ok-clause-told
returns-in-Ok-clause-told g c = λ told serves.
    let all = packages (g.D.Disk.files c.args.disk.now).pkg (store_of c.args.db.now) in
    c.is_some.ensures ∙ any_is c.args.n (above 0 (picks all c.args.selection.now)) c.in-Ok.found (c.in-Ok.ensures.told told serves) c.in-Ok.ensures.up_to

pub returns-in-Ok-clause-reads : goal.returns-in-Ok-clause-reads
returns-in-Ok-clause-reads g c =
    let up = reach_up c.args.self.now c.args.db.now _ c.args.n (end_within c.args.n (Ok c.in-Ok.found) c.in-Ok.ensures.up_to) in
    omega (arith, c.in-Ok.ensures.reads, up)

pub returns-in-Err-clause-reads : goal.returns-in-Err-clause-reads
returns-in-Err-clause-reads g c = omega (arith, c.in-Err.ensures.reads)

pub returns-in-Ok-clause-asks : goal.returns-in-Ok-clause-asks
returns-in-Ok-clause-asks g c =
    let db = c.args.db.now in
    let n = c.args.n in
    let last = upper_end n (Ok c.in-Ok.found) in
    let up = cost_up db last n (end_within n (Ok c.in-Ok.found) c.in-Ok.ensures.up_to) in
    asks_then g.D.Disk g.met.D.Disk.follows_trans 0 (packages_cost_to last db - packages_cost_to 0 db)
    (packages_cost_to n db) c.args.disk.now c.args.disk.now c.next_within.new.disk db
    (omega (arith, up)) (looks_none g.D.Disk Pkg g.met.D.Disk.follows_refl c.args.disk.now) (omega arith) c.is_some.result c.in-Ok.ensures.asks

pub returns-in-Err-clause-asks : goal.returns-in-Err-clause-asks
returns-in-Err-clause-asks g c =
    let db = c.args.db.now in
    let n = c.args.n in
    asks_failed g.D.Disk g.met.D.Disk.follows_trans 0 (packages_cost_to n db - packages_cost_to 0 db)
    (packages_cost_to n db) c.args.disk.now c.args.disk.now c.next_within.new.disk db
    (omega arith) (looks_none g.D.Disk Pkg g.met.D.Disk.follows_refl c.args.disk.now) (omega arith) _ _ c.in-Err.fault c.in-Err.ensures.asks
