use Rattle.std.proofs.Common.{true, [], refl, arith}
use Rattle.std.specs.Prelude.{IsTrue}
use Rattle.std.specs.FinMap as finite
use Rattle.rpm_change.proofs.Vocabulary.{above, drop_each, dropped_course, err_is, going_end, going_more, going_start, going_stop, inner, none_went}
use Rattle.rpm_change.proofs.Vocabulary.{out_joins, out_none, packages_in, rebuild, state_in, went_as}
use Rattle.rpm_change.proofs.Dropped.{package_or, drop_next, drop_none, same_dropped}
use Rattle.rpm_change.proofs.laws.Owing.{owing_none, owing_then}
use Rattle.rpm_change.proofs.rebuilding.drop_each.Goals as goal

pub loop-next-init : goal.loop-next-init
loop-next-init g c =
    let s = state_in g.D.Disk c.args.disk.now c.args.db.now in
    record {
      goes = going_start g.D.Disk (rebuild s)
          (none_went g.D.Disk g.met.D.Disk.follows_refl (owing_none g.D.Disk c.requires.gathering) _ _ c.requires.gathering.indexed
          (out_none g.O.Sink c.args.out.now s));
      same = λ told k over. refl;
      few = omega arith;
      out = omega arith;
      out_rest = g.met.O.Sink.follows_refl (inner c.args.out.now);
    }

pub loop-next-preserved : goal.loop-next-preserved
loop-next-preserved g c =
    let n = c.loop-next.number in
    let m = c.in-Some.next in
    let inv = c.loop-next.invariant in
    let done = c.in_ok-tally.ensures in
    let s = state_in g.D.Disk c.args.disk.now c.args.db.now in
    let t = state_in g.D.Disk c.loop-next.disk c.loop-next.db in
    let u = state_in g.D.Disk c.drop_one.new.disk c.drop_one.new.db in
    let es = finite.entries (packages_in g.D.Disk c.args.disk.now c.args.db.now) in
    let p = package_or (finite.get t.packages m) in
    let next = λ (told : IsTrue g.D.Disk.tells). drop_next s.packages t.packages n m (inv.same told)
    (c.in-Some.ensures.told (g.D.Disk.files c.loop-next.disk).pkg) in
    let went = went_as g.D.Disk (dropped_course m p) (dropped_course m p) (λ told. (told, (next told).0)) (λ told. refl) (λ s t e. e) (done.went p) in
    record {
      goes = going_more g.D.Disk g.met.D.Disk.follows_trans (out_joins g.O.Sink c.args.out.now c.loop-next.out c.drop_one.new.out)
          (owing_then g.D.Disk) (λ owing told rows. owing.owes told rows) (λ owing. owing.stays) (dropped_course m p) (drop_each (above m es)) inv.goes
          (λ told after. (next told).1) went;
      same = λ told. same_dropped p n m s t u (inv.same told) c.in-Some.ensures.next.0 (went.ended told true []).state_is;
      few = omega (arith, inv.few, done.one, c.in-Some.ensures.next.0);
      out = omega (arith, inv.out, done.out.cause.later);
      out_rest = g.met.O.Sink.follows_trans (inner c.args.out.now) (inner c.loop-next.out) (inner c.drop_one.new.out) inv.out_rest done.out.goes_on;
    }

pub returns-in_err-tally-clause-went : goal.returns-in_err-tally-clause-went
returns-in_err-tally-clause-went g c =
    let n = c.loop-next.number in
    let m = c.in-Some.next in
    let inv = c.loop-next.invariant in
    let s = packages_in g.D.Disk c.args.disk.now c.args.db.now in
    let t = packages_in g.D.Disk c.loop-next.disk c.loop-next.db in
    let p = package_or (finite.get t m) in
    let next = λ (told : IsTrue g.D.Disk.tells). drop_next s t n m (inv.same told) (c.in-Some.ensures.told (g.D.Disk.files c.loop-next.disk).pkg) in
    rw (err_is c.from_residual.result c.from_residual.ensures)
    (going_stop g.D.Disk g.met.D.Disk.follows_trans (out_joins g.O.Sink c.args.out.now c.loop-next.out c.drop_one.new.out)
    (owing_then g.D.Disk) (λ owing told rows. owing.owes told rows) (λ owing. owing.stays) (dropped_course m p)
    (drop_each (above m (finite.entries s))) inv.goes
    (λ told. (next told).1)
    (went_as g.D.Disk (dropped_course m p) (dropped_course m p) (λ told. (told, (next told).0)) (λ told. refl) (λ s t e. e) (c.in_err-tally.ensures.went p)))

pub returns-clause-went : goal.returns-clause-went
returns-clause-went g c =
    let s = packages_in g.D.Disk c.args.disk.now c.args.db.now in
    let t = packages_in g.D.Disk c.loop-next.disk c.loop-next.db in
    let inv = c.loop-next.invariant in
    going_end g.D.Disk
    (λ told. drop_none s t c.loop-next.number (inv.same told) (c.in_default.ensures.told (g.D.Disk.files c.loop-next.disk).pkg)) inv.goes
