use Rattle.std.proofs.Common.{◌≡◌, ◌++◌, IsTrue, sym, ap, subst, ◌∙◌, arith}
use Rattle.rpm_group.proofs.Vocabulary.{changed_leaves_more, changed_more, changed_then, CrashChanges, EntriesIn, Files, HeadsEndInZeros, IsChangedInRange, Log}
use Rattle.rpm_group.proofs.Vocabulary.{needed_units}
use Rattle.rpm_group.proofs.Closes.{synced_leaves}
use Rattle.rpm_group.proofs.Committing.{transaction_of, tail_of, heads_of, log_leaves, log_durable}
use Rattle.rpm_group.proofs.commit.log_held.Given.{Over}
use Rattle.rpm_group.proofs.commit.log_held.Goals.{After-log_runs-2}
use Rattle.rpm_group.proofs.commit.log_held.Goals as goal

pub returns-in_err-middle-clause-images : goal.returns-in_err-middle-clause-images
returns-in_err-middle-clause-images g c = λ told.
    changed_leaves_more g.D.Disk Log 1 _ 1 (needed_units c.args.held.now) c.args.disk.now c.log_runs.new.disk (omega arith) (omega arith)
    (c.log_runs.ensures.images told)

pub returns-clause-changed : goal.returns-clause-changed
returns-clause-changed g c = λ told.
    let D = g.D.Disk in
    let old : Files = D.files c.args.disk.now in
    let first : Files = D.files c.log_runs.new.disk in
    let last : Files = D.files c.log_runs-2.new.disk in
    let end = needed_units c.args.held.now in
    subst (λ (f : Files). IsChangedInRange Log 1 end old f) (sym (c.sync.ensures.same told)) (changed_then Log 1 end old first last
    (changed_more Log 1 _ 1 end old first (omega arith) (omega arith) (c.in_ok-middle.ensures.changed told))
    (changed_more Log c.in_ok-middle.middle.at _ 1 end first last (omega (arith, c.in_ok-middle.ensures.at))
    (omega (arith, c.in_ok-middle.ensures.at)) (c.in_ok-tail.ensures.changed told)))

-- both runs of writes
runs_change : (g : Over) (c : After-log_runs-2 g) → IsTrue g.D.Disk.tells
    → CrashChanges g.D.Disk Log 1 (needed_units c.args.held.now) c.args.disk.now c.log_runs-2.new.disk
runs_change g c told =
    let D = g.D.Disk in
    let old = c.args.disk.now in
    let mid = c.log_runs.new.disk in
    log_leaves D _ c.in_ok-middle.middle.at _ (needed_units c.args.held.now) old mid c.log_runs-2.new.disk (omega (arith, c.in_ok-middle.ensures.at))
    (omega arith) (omega (arith, c.in_ok-middle.ensures.at))
    (λ image left. g.met.D.Disk.earlier mid (D.moment old) (D.moment mid) image told c.log_runs.ensures.reads.nothing.later (omega arith) left)
    (c.log_runs.ensures.images told) (c.log_runs-2.ensures.images told)

pub returns-in_err-tail-clause-images : goal.returns-in_err-tail-clause-images
returns-in_err-tail-clause-images g c = runs_change g (goal.at.returns-in_err-tail-clause-images g c).After-log_runs-2

pub returns-in_err-sync-clause-images : goal.returns-in_err-sync-clause-images
returns-in_err-sync-clause-images g c = λ told.
    synced_leaves g.D.Disk told g.met.D.Disk.earlier _ _ _ _ (runs_change g (goal.at.returns-in_err-sync-clause-images g c).After-log_runs-2 told)
    (c.sync.ensures.time told) (c.sync.ensures.images told)

pub returns-clause-images : goal.returns-clause-images
returns-clause-images g c = λ told.
    synced_leaves g.D.Disk told g.met.D.Disk.earlier _ _ _ _ (runs_change g (goal.at.returns-clause-images g c).After-log_runs-2 told)
    (c.sync.ensures.time told) (c.sync.ensures.images told)

pub returns-clause-logged : goal.returns-clause-logged
returns-clause-logged g c = λ told.
    let D = g.D.Disk in
    let held = c.args.held.now in
    let one = c.in_ok-middle.ensures.logged told in
    let two = c.in_ok-tail.ensures.logged told in
    let transaction = transaction_of held one.0 two.0 one.1 two.1 in
    let placed = tail_of one.0 two.0 c.in_ok-middle.middle.at c.in_ok-tail.tail.at _ (D.files c.log_runs.new.disk) (D.files c.log_runs-2.new.disk) one.2
    two.2 (c.in_ok-tail.ensures.changed told) in
    let heads = heads_of one.0 two.0 c.in_ok-middle.middle.at _ (D.files c.log_runs.new.disk) (D.files c.log_runs-2.new.disk) one.2 one.3 two.3
    (c.in_ok-tail.ensures.changed told) in
    let same : D.files c.log_runs-2.new.disk ≡ D.files c.sync.new.self = sym (c.sync.ensures.same told) in (
      one.0 ++ two.0,
      transaction,
      record {
        count = omega (arith, transaction.count, c.in_ok-middle.ensures.entries, c.in_ok-tail.ensures.entries);
        placed = subst (λ (f : Files). EntriesIn (one.0 ++ two.0) 1 c.in_ok-tail.tail.at f.log) same placed;
        heads = subst (λ (f : Files). HeadsEndInZeros (one.0 ++ two.0) 1 f.log) same heads;
      },
    )

pub returns-clause-durable : goal.returns-clause-durable
returns-clause-durable g c = λ told.
    let D = g.D.Disk in
    let old = c.args.disk.now in
    let new = c.sync.new.self in
    log_durable D (needed_units c.args.held.now) old new (D.files old) (D.files new) (c.requires.durable told) (returns-clause-changed g c told)
    (returns-clause-images g c told)
    (λ image left. g.met.D.Disk.earlier new (D.moment old) (D.moment new) image told
    (omega (arith, c.log_runs.ensures.reads.nothing.later, c.log_runs-2.ensures.reads.nothing.later, c.sync.ensures.later)) (omega arith) left)
    (λ image left. c.in_ok-sync.ensures.durable told image left ∙ ap (λ (f : Files). f.log) (sym (c.sync.ensures.same told)))
