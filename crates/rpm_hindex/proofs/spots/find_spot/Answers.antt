use Rattle.std.proofs.Common.{ℕ, ◌<◌, ◌≡◌, ◌∷◌, [], ◌++◌, List, Bool, true, refl, sym, ap, ◌∙◌, arith, subst, inr, rules}
use Rattle.rpm_hindex.proofs.Vocabulary.{contains, Files, Idx, Index, index_in, is_kept, is_sound, IsOutsideIndex, IsPath, looks_at_none, looks_at_then, nat_cmp}
use Rattle.rpm_hindex.proofs.Vocabulary.{Row, sum_by, unit_at, units_at}
use Rattle.std.proofs.lemmas.Bool.{and_parts}
use Rattle.std.proofs.lemmas.List.Sums.{sum_by-append}
use Rattle.rpm_hindex.proofs.Passing.{fault_outside, cost_within, next_left, left_more, met_first, met_path, met_left, behind, cost_behind, cost_passed, none_passed, spot_met}
use Rattle.rpm_hindex.proofs.Paths.{path_ends}
use Rattle.rpm_hindex.proofs.Steps.{front_last}
use Rattle.rpm_hindex.proofs.Ways.{last_more, within_last}
use Rattle.rpm_hindex.proofs.Results.{handed_on}
use Rattle.rpm_hindex.proofs.spots.find_spot.Goals as goal

pub loop-at-init : goal.loop-at-init
loop-at-init g c = record {
  linked = c.requires.linked;
  before = tt;
  front = tt;
  looks = looks_at_none _ Idx g.met.D.Disk.follows_refl c.args.disk.now;
  dropped = λ p above below. absurd (omega arith);
  faults = omega arith;
  so_far = λ told front path. ([], front, refl, refl, path, refl, λ q (k, lt, e) stays. absurd (omega arith), omega arith);
}

pub returns-in_err-met-clause-fault : goal.returns-in_err-met-clause-fault
returns-in_err-met-clause-fault g c =
    handed_on c.from_residual.result c.in_err-met.field-0.0 _ c.from_residual.ensures.1 (λ told front rest path more.
    let l = c.loop-at in
    let s = l.invariant.so_far told front path in
    fault_outside c.args.extent.buckets c.args.bucket c.args.from l.at c.args.end (g.D.Disk.files c.args.disk.now) (g.D.Disk.files l.disk) s.0 s.1
    ((l.invariant.looks.untouched told).same) s.3 s.4 (omega (arith, c.loop-at-test.true)) rest more c.in_err-met.field-0.0 (c.in_err-met.ensures.fault told))

pub returns-in_err-met-clause-cost : goal.returns-in_err-met-clause-cost
returns-in_err-met-clause-cost g c = λ told front path.
    let l = c.loop-at in
    let file : Files = g.D.Disk.files c.args.disk.now in
    let s = l.invariant.so_far told front path in
    let within = cost_within c.args.extent.buckets c.args.bucket c.args.from l.at c.args.end file (g.D.Disk.files l.disk) s.0 s.1
    ((l.invariant.looks.untouched told).same) s.3 s.4 (omega (arith, c.loop-at-test.true)) _ _ _ s.7 (c.in_err-met.ensures.cost told) in
    omega (arith, within, ap (sum_by (units_at (unit_at file.idx))) s.2)

pub returns-in_err-behind-clause-reads : goal.returns-in_err-behind-clause-reads
returns-in_err-behind-clause-reads g c = record {
  looks =
      let looks = looks_at_then _ Idx g.met.D.Disk.follows_trans c.args.disk.now c.loop-at.disk c.meet.new.disk c.loop-at.invariant.looks
      c.meet.ensures.reads.looks in
      looks_at_then _ Idx g.met.D.Disk.follows_trans c.args.disk.now c.meet.new.disk c.skip_dropped.new.disk looks c.skip_dropped.ensures.reads.looks;
  cause = search rules;
}

pub returns-in_err-behind-clause-fault : goal.returns-in_err-behind-clause-fault
returns-in_err-behind-clause-fault g c =
    handed_on c.from_residual-in_err-behind.result c.in_err-behind.field-0.0 _ c.from_residual-in_err-behind.ensures.1 (λ told front rest path more.
    let l = c.loop-at in
    let file : Files = g.D.Disk.files c.args.disk.now in
    let row : Row = record { kind = c.args.row.kind; key = c.args.row.key.now; number = c.args.row.number; place = c.args.row.place } in
    let s = l.invariant.so_far told front path in
    let looks = looks_at_then _ Idx g.met.D.Disk.follows_trans c.args.disk.now l.disk c.meet.new.disk l.invariant.looks c.meet.ensures.reads.looks in
    behind c.args.extent.buckets c.args.bucket c.args.from l.at c.args.end file (g.D.Disk.files l.disk) s.0 s.1
    ((l.invariant.looks.untouched told).same) s.3 s.4 (omega (arith, c.loop-at-test.true)) row c.in_ok-met.met (c.in_ok-met.ensures.met told)
    (λ (x : Index) (qs : List ℕ). IsPath x c.args.bucket c.args.end rest 0 → IsOutsideIndex c.in_err-behind.field-0.0) (g.D.Disk.files c.meet.new.disk)
    ((looks.untouched told).same) (λ qs way. λ later. c.in_err-behind.ensures.fault told c.args.bucket qs rest way later) more)

pub returns-in_err-behind-clause-cost : goal.returns-in_err-behind-clause-cost
returns-in_err-behind-clause-cost g c = λ told front path.
    let l = c.loop-at in
    let file : Files = g.D.Disk.files c.args.disk.now in
    let row : Row = record { kind = c.args.row.kind; key = c.args.row.key.now; number = c.args.row.number; place = c.args.row.place } in
    let s = l.invariant.so_far told front path in
    let looks = looks_at_then _ Idx g.met.D.Disk.follows_trans c.args.disk.now l.disk c.meet.new.disk l.invariant.looks c.meet.ensures.reads.looks in
    let all = cost_behind c.args.extent.buckets c.args.bucket c.args.from l.at c.args.end file (g.D.Disk.files l.disk) s.0 s.1
    ((l.invariant.looks.untouched told).same) s.3 s.4 (omega (arith, c.loop-at-test.true)) row c.in_ok-met.met (c.in_ok-met.ensures.met told)
    (g.D.Disk.files c.meet.new.disk) _ _ _ _ ((looks.untouched told).same) s.7 (c.in_ok-met.ensures.cost told)
    (c.in_err-behind.ensures.cost told c.args.bucket) in
    omega (arith, all, ap (sum_by (units_at (unit_at file.idx))) s.2)

pub returns-then-is_hit-clause-reads : goal.returns-then-is_hit-clause-reads
returns-then-is_hit-clause-reads g c = record {
  looks =
      let looks = looks_at_then _ Idx g.met.D.Disk.follows_trans c.args.disk.now c.loop-at.disk c.meet.new.disk c.loop-at.invariant.looks
      c.meet.ensures.reads.looks in
      looks_at_then _ Idx g.met.D.Disk.follows_trans c.args.disk.now c.meet.new.disk c.skip_dropped.new.disk looks c.skip_dropped.ensures.reads.looks;
  cause = search rules;
}

pub returns-then-is_hit-clause-cost : goal.returns-then-is_hit-clause-cost
returns-then-is_hit-clause-cost g c = λ told front path.
    let l = c.loop-at in
    let file : Files = g.D.Disk.files c.args.disk.now in
    let row : Row = record { kind = c.args.row.kind; key = c.args.row.key.now; number = c.args.row.number; place = c.args.row.place } in
    let s = l.invariant.so_far told front path in
    let looks = looks_at_then _ Idx g.met.D.Disk.follows_trans c.args.disk.now l.disk c.meet.new.disk l.invariant.looks c.meet.ensures.reads.looks in
    let all = cost_behind c.args.extent.buckets c.args.bucket c.args.from l.at c.args.end file (g.D.Disk.files l.disk) s.0 s.1
    ((l.invariant.looks.untouched told).same) s.3 s.4 (omega (arith, c.loop-at-test.true)) row c.in_ok-met.met (c.in_ok-met.ensures.met told)
    (g.D.Disk.files c.meet.new.disk) _ _ _ _ ((looks.untouched told).same) s.7 (c.in_ok-met.ensures.cost told)
    (c.in_ok-behind.ensures.cost told c.args.bucket) in
    omega (arith, all, ap (sum_by (units_at (unit_at file.idx))) s.2)

pub returns-then-is_hit-clause-found : goal.returns-then-is_hit-clause-found
returns-then-is_hit-clause-found g c = record {
  within = c.loop-at.invariant.before;
  linked = (c.in_ok-behind.ensures.linked, c.loop-at.invariant.front);
  sound = λ told.
      let l = c.loop-at in
      let parts = and_parts c.in_ok-met.met.is_wanted _ (sym c.is_hit.ensures ∙ c.if-is_hit.true) in
      subst (λ (f : Files). is_sound (index_in c.args.extent.buckets f.idx) c.args.bucket l.at ≡ true) ((l.invariant.looks.untouched told).same)
      (c.in_ok-met.ensures.sound told (inr parts.0));
  found = λ told front path.
      let l = c.loop-at in
      let file : Files = g.D.Disk.files c.args.disk.now in
      let row : Row = record { kind = c.args.row.kind; key = c.args.row.key.now; number = c.args.row.number; place = c.args.row.place } in
      let s = l.invariant.so_far told front path in
      let looks = looks_at_then _ Idx g.met.D.Disk.follows_trans c.args.disk.now l.disk c.meet.new.disk l.invariant.looks
      c.meet.ensures.reads.looks in
      spot_met c.args.extent.buckets c.args.bucket c.args.from l.at c.args.end file (g.D.Disk.files l.disk) s.0 s.1
      ((l.invariant.looks.untouched told).same) s.3 s.4 (omega (arith, c.loop-at-test.true)) row c.in_ok-met.met (c.in_ok-met.ensures.met told)
      (is_kept (λ p. contains nat_cmp c.args.dropped.now p)) l.before c.in_ok-behind.behind (g.D.Disk.files c.meet.new.disk) c.in_ok-met.ensures.here s.5
      (sym c.is_hit.ensures ∙ c.if-is_hit.true) ((looks.untouched told).same) (c.in_ok-behind.ensures.skips told c.args.bucket);
}

pub loop-at-preserved : goal.loop-at-preserved
loop-at-preserved g c =
    let l = c.loop-at in
    let B = c.args.extent.buckets in
    let b = c.args.bucket in
    let file : Files = g.D.Disk.files c.args.disk.now in
    let kept : ℕ → Bool = is_kept (λ p. contains nat_cmp c.args.dropped.now p) in
    let below : c.args.end < l.at = omega (arith, c.loop-at-test.true) in
    let some : 0 < l.at = omega (arith, c.loop-at-test.true) in
    let met = c.in_ok-met.met in
    let here = c.in_ok-met.ensures.here in
    let kept_now = c.last_kept-before in
    record {
      linked = c.in_ok-met.ensures.next.linked;
      before = within_last c.args.extent.used (kept met.head.at) met.head l.before kept_now.result kept_now.ensures l.invariant.before
          (omega (arith, some, here)) (omega (arith, (l.invariant.linked some).1, here));
      front = front_last B (kept met.head.at) met.head l.before kept_now.result kept_now.ensures l.invariant.front
          (omega (arith, (l.invariant.linked some).0, here));
      dropped = c.dropped_to-last.ensures;
      looks = looks_at_then _ Idx g.met.D.Disk.follows_trans c.args.disk.now l.disk c.meet.new.disk l.invariant.looks c.meet.ensures.reads.looks;
      faults = omega (arith, l.invariant.faults, c.meet.ensures.reads.cause.later);
      so_far = λ told front path.
          let s = l.invariant.so_far told front path in
          let before : Files = g.D.Disk.files l.disk in
          let row : Row = record { kind = c.args.row.kind; key = c.args.row.key.now; number = c.args.row.number; place = c.args.row.place } in
          let same = (l.invariant.looks.untouched told).same in
          let is = c.in_ok-met.ensures.met told in
          let from = c.args.from in
          let end = c.args.end in
          let next = next_left B b from l.at end file before s.0 s.1 same s.3 s.4 below in
          let m = met_first B b from l.at end file before s.0 s.1 same s.3 s.4 below row met is in (
            s.0 ++ l.at ∷ [],
            next.0,
            left_more front s.0 s.1 next.0 l.at s.2 next.1,
            met_path B b from l.at end file before s.0 s.1 same s.3 s.4 below row met is,
            met_left B b from l.at end file before s.0 s.1 same s.3 s.4 below row met is,
            last_more (unit_at file.idx) kept s.0 l.at l.before kept_now.result met.head s.5 m.head here kept_now.ensures,
            none_passed B b from l.at end file before s.0 s.1 same s.3 s.4 below row met is kept here s.6 (sym c.is_hit.ensures ∙ c.if-is_hit.false),
            cost_passed B b from l.at end file before s.0 s.1 same s.3 s.4 below row met is _ _ _ s.7 (c.in_ok-met.ensures.cost told),
          );
    }

pub returns-clause-found : goal.returns-clause-found
returns-clause-found g c = record {
  within = tt;
  linked = tt;
  sound = λ told. tt;
  found = λ told front path.
      let l = c.loop-at in
      let x : Index = index_in c.args.extent.buckets (g.D.Disk.files c.args.disk.now).idx in
      let s = l.invariant.so_far told front path in
      let ends = path_ends x c.args.bucket l.at c.args.end s.1 s.4 (omega (arith, c.loop-at-test.false)) in
      record { places = s.0; path = subst (IsPath x c.args.bucket c.args.from s.0) ends.1 s.3; none = s.6 };
}

pub returns-clause-cost : goal.returns-clause-cost
returns-clause-cost g c = λ told front path.
    let s = c.loop-at.invariant.so_far told front path in
    let units = units_at (unit_at (g.D.Disk.files c.args.disk.now).idx) in
    omega (arith, s.7, ap (sum_by units) s.2, sum_by-append units s.0 s.1)
