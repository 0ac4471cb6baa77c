use Rattle.std.proofs.Common.{ℕ, ◌++◌, ◌^◌, ◌<◌, ◌≤◌, List, sym, subst, arith}
use Rattle.rpm_db.proofs.Vocabulary.{buckets_of, found_rows, HasChanged, IsPlanFor, IsWellFormed, reach_with, ReachesFor, records, rows, times-append, units_after}
use Rattle.rpm_db.specs.declared.change_fault.ChangeFault.TheVariants as change
use Rattle.rpm_hindex.specs.Refusals.{IsBadFor}
use Rattle.rpm_hindex.specs.declared.faults.PrepareFault.TheVariants as prepare
use Rattle.rpm_db.proofs.OwedRows.{balance_netted}
use Rattle.rpm_db.proofs.Prepared.{bad_more, of_records, writes_rows}
use Rattle.rpm_db.proofs.Wholes.{whole_plan}
use Rattle.rpm_hindex.proofs.Fewer.{live_less, units_less}
use Rattle.rpm_db.proofs.planning.prepare_owed.Goals as goal

-- ---- it was worked out

pub returns-in-Ok-prepare_owned-clause-plan : goal.returns-in-Ok-prepare_owned-clause-plan
returns-in-Ok-prepare_owned-clause-plan g c =
    let idx = (g.D.Disk.files c.args.disk.now).idx in
    let owed = c.args.owed in
    let net = c.in-Ok.net in
    let e = c.in-Ok-prepare_owned.ensures in
    let work = c.in-Ok-prepare_owned.plan.work in
    record {
      can = record { can = e.can; ordered = e.prepared.ordered };
      leads = λ old new balances.
          (let changed = balance_netted owed net (rows old) (rows new) c.in-Ok.ensures balances in
          record {
            makes = λ told has.
                (let first = (c.requires.keeps told).first in
                let whole = subst (λ (u : List ℕ). IsWellFormed (buckets_of u) idx) (sym first) has.whole in
                writes_rows net.drops net.adds old new idx has changed work
                (subst (λ (u : List ℕ). IsPlanFor net.drops net.adds (buckets_of u) idx work) first (e.prepared.change told whole).makes));
            reach = λ told has.
                (let first = (c.requires.keeps told).first in
                let whole = subst (λ (u : List ℕ). IsWellFormed (buckets_of u) idx) (sym first) has.whole in
                let reach = subst (λ (u : List ℕ). ReachesFor net.drops net.adds (records (buckets_of u) idx) c.args.index.now.units work) first
                (e.prepared.change told whole).reach in
                omega (
                  arith,
                  reach (rows new) (of_records net.drops net.adds old new idx has changed),
                  live_less net.adds owed.adds (λ row. omega (arith, c.in-Ok.ensures.1 row)),
                ));
          });
      whole = λ told whole.
          whole_plan net.drops net.adds c.args.index.now.first idx work (c.requires.keeps told).first (λ well. (e.prepared.change told well).makes) whole;
    }

pub returns-in-Ok-prepare_owned-clause-grows : goal.returns-in-Ok-prepare_owned-clause-grows
returns-in-Ok-prepare_owned-clause-grows g c = λ told.
    let idx = (g.D.Disk.files c.args.disk.now).idx in
    let owed = c.args.owed in
    let net = c.in-Ok.net in
    let found = found_rows idx in
    omega (
      arith,
      subst (λ (u : List ℕ). units_after c.in-Ok-prepare_owned.plan.work ≤ reach_with net.adds (records (buckets_of u) idx) c.args.index.now.units)
          (c.requires.keeps told).first (c.in-Ok-prepare_owned.ensures.prepared.grows told),
      live_less net.adds owed.adds (λ row. omega (arith, c.in-Ok.ensures.1 row)),
      units_less (found ++ net.adds) (found ++ owed.adds)
          (λ row. omega (arith, c.in-Ok.ensures.1 row, times-append row found net.adds, times-append row found owed.adds)),
    )

pub returns-in-Ok-prepare_owned-clause-full : goal.returns-in-Ok-prepare_owned-clause-full
returns-in-Ok-prepare_owned-clause-full g c = λ told old new has balances.
    let idx = (g.D.Disk.files c.args.disk.now).idx in
    let net = c.in-Ok.net in
    let first = (c.requires.keeps told).first in
    let whole = subst (λ (u : List ℕ). IsWellFormed (buckets_of u) idx) (sym first) has.whole in
    let changed = of_records net.drops net.adds old new idx has (balance_netted c.args.owed net (rows old) (rows new) c.in-Ok.ensures balances) in
    (c.in-Ok-prepare_owned.ensures.prepared.change told whole).room (rows new)
    (subst (λ (u : List ℕ). HasChanged net.drops net.adds (records (buckets_of u) idx) (rows new)) (sym first) changed)

-- ---- or not

pub returns-in-Err-IndexFull-clause-full : goal.returns-in-Err-IndexFull-clause-full
returns-in-Err-IndexFull-clause-full g c = λ told old new has balances.
    let idx = (g.D.Disk.files c.args.disk.now).idx in
    let net = c.in-Ok.net in
    let first = (c.requires.keeps told).first in
    let whole = subst (λ (u : List ℕ). IsWellFormed (buckets_of u) idx) (sym first) has.whole in
    let changed = of_records net.drops net.adds old new idx has (balance_netted c.args.owed net (rows old) (rows new) c.in-Ok.ensures balances) in
    let large = rw c.in-Err-IndexFull.field-0-is at (c.in-Err-IndexFull.ensures.refused.full told whole) in
    let is = large.1 (rows new) (subst (λ (u : List ℕ). HasChanged net.drops net.adds (records (buckets_of u) idx) (rows new)) (sym first) changed) in
    (subst (λ (n : ℕ). 2 ^ 28 < n) is large.0, is)

pub returns-in-Err-BadIndex-clause-bad : goal.returns-in-Err-BadIndex-clause-bad
returns-in-Err-BadIndex-clause-bad g c = λ told.
    let idx = (g.D.Disk.files c.args.disk.now).idx in
    let net = c.in-Ok.net in
    let unit = c.in-Err-BadIndex.unit in
    bad_more net.drops c.args.owed.drops idx (change.BadIndex unit) (λ row. omega (arith, c.in-Ok.ensures.0 row))
    (subst (λ (u : List ℕ). IsBadFor net.drops (buckets_of u) idx (prepare.BadIndex unit)) (c.requires.keeps told).first
    (rw c.in-Err-BadIndex.field-0-is at (c.in-Err-BadIndex.ensures.refused.counts told)))
