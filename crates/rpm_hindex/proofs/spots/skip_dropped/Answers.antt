use Rattle.std.proofs.Common.{ℕ, ◌∷◌, [], ◌++◌, not, refl, sym, ap, ◌∙◌, arith, subst, inl, inr}
use Rattle.rpm_hindex.proofs.Vocabulary.{contains, Files, Idx, Index, index_in, is_kept, IsRecordAhead, IsPath, looks_at_from, looks_at_none, looks_at_then}
use Rattle.rpm_hindex.proofs.Vocabulary.{nat_cmp, sum_by, unit_at, units_at}
use Rattle.std.proofs.lemmas.List.Sums.{sum_by_push, sum_by-append}
use Rattle.rpm_hindex.proofs.Passing.{fault_outside, cost_within, next_left, left_more}
use Rattle.rpm_hindex.proofs.Paths.{path_ends}
use Rattle.rpm_hindex.proofs.Ways.{path_more, filter_same}
use Rattle.rpm_hindex.proofs.Results.{handed_on}
use Rattle.rpm_hindex.proofs.spots.skip_dropped.Goals as goal

pub loop-at-init : goal.loop-at-init
loop-at-init g c = record {
  linked = c.requires.linked;
  looks = looks_at_none _ Idx g.met.D.Disk.follows_refl c.args.disk.now;
  faults = omega arith;
  so_far = λ told b front path. ([], front, refl, refl, path, refl, omega arith);
}

pub returns-in_err-ahead-clause-fault : goal.returns-in_err-ahead-clause-fault
returns-in_err-ahead-clause-fault g c =
    handed_on c.from_residual.result c.in_err-ahead.field-0.0 _ c.from_residual.ensures.1 (λ told b front rest path more.
    let l = c.loop-at in
    let s = l.invariant.so_far told b front path in
    fault_outside c.args.extent.buckets b c.args.from l.at c.args.end (g.D.Disk.files c.args.disk.now) (g.D.Disk.files l.disk) s.0 s.1
    ((l.invariant.looks.untouched told).same) s.3 s.4 (omega (arith, c.loop-at-test.true)) rest more c.in_err-ahead.field-0.0
    (c.in_err-ahead.ensures.fault told b))

pub returns-in_err-ahead-clause-cost : goal.returns-in_err-ahead-clause-cost
returns-in_err-ahead-clause-cost g c = λ told b front path.
    let l = c.loop-at in
    let file : Files = g.D.Disk.files c.args.disk.now in
    let s = l.invariant.so_far told b front path in
    let within = cost_within c.args.extent.buckets b c.args.from l.at c.args.end file file s.0 s.1 refl s.3 s.4 (omega (arith, c.loop-at-test.true))
    (g.D.Disk.bytes_read c.args.disk.now Idx) (g.D.Disk.bytes_read l.disk Idx) (g.D.Disk.bytes_read c.read_head.new.disk Idx) s.6
    (λ sound. omega (arith, c.in_err-ahead.ensures.reads.looks.reads.idx)) in
    omega (arith, within, ap (sum_by (units_at (unit_at file.idx))) s.2)

pub returns-else-contains-clause-skips : goal.returns-else-contains-clause-skips
returns-else-contains-clause-skips g c = λ told b front path.
    let s = c.loop-at.invariant.so_far told b front path in
    record { dropped = s.0; path = s.3; none = s.5; ends = inr (ap not (sym c.contains.ensures ∙ c.if-contains.false)) }

pub returns-after-loop-at-clause-skips : goal.returns-after-loop-at-clause-skips
returns-after-loop-at-clause-skips g c = λ told b front path.
    let l = c.loop-at in
    let s = l.invariant.so_far told b front path in
    let x : Index = index_in c.args.extent.buckets (g.D.Disk.files c.args.disk.now).idx in
    record {
      dropped = s.0;
      path = s.3;
      none = s.5;
      ends = inl ((path_ends x b l.at c.args.end s.1 s.4 (omega (arith, c.loop-at-test.false))).1);
    }

pub returns-else-contains-clause-cost : goal.returns-else-contains-clause-cost
returns-else-contains-clause-cost g c = λ told b front path.
    let s = c.loop-at.invariant.so_far told b front path in
    let units = units_at (unit_at (g.D.Disk.files c.args.disk.now).idx) in
    omega (arith, s.6, ap (sum_by units) s.2, sum_by-append units s.0 s.1)

pub returns-after-loop-at-clause-cost : goal.returns-after-loop-at-clause-cost
returns-after-loop-at-clause-cost g c = λ told b front path.
    let s = c.loop-at.invariant.so_far told b front path in
    let units = units_at (unit_at (g.D.Disk.files c.args.disk.now).idx) in
    omega (arith, s.6, ap (sum_by units) s.2, sum_by-append units s.0 s.1)

pub loop-at-preserved : goal.loop-at-preserved
loop-at-preserved g c =
    let l = c.loop-at in
    let B = c.args.extent.buckets in
    let file : Files = g.D.Disk.files c.args.disk.now in
    record {
      linked = c.in_ok-ahead.ensures.next.linked;
      looks = looks_at_then _ Idx g.met.D.Disk.follows_trans c.args.disk.now l.disk c.read_head.new.disk l.invariant.looks
          (looks_at_from _ Idx 16 l.disk c.read_head.new.disk c.read_head.ensures.reads.looks);
      faults = omega (arith, l.invariant.faults, c.read_head.ensures.reads.cause.later);
      so_far = λ told b front path.
          let s = l.invariant.so_far told b front path in
          let x : Index = index_in B file.idx in
          let next = next_left B b c.args.from l.at c.args.end file file s.0 s.1 refl s.3 s.4 (omega (arith, c.loop-at-test.true)) in
          let a = subst (λ (f : Files). IsRecordAhead (index_in B f.idx) l.at c.in_ok-ahead.ahead) ((l.invariant.looks.untouched told).same)
          (c.in_ok-ahead.ensures.ahead told) in
          let gone = ap not (sym c.contains.ensures ∙ c.if-contains.true) in (
            s.0 ++ l.at ∷ [],
            next.0,
            left_more front s.0 s.1 next.0 l.at s.2 next.1,
            path_more x b c.args.from l.at c.in_ok-ahead.ahead.next s.0 s.3 (omega (arith, c.loop-at-test.true)) next.2 a.next,
            subst (λ (n : ℕ). IsPath x b n next.0 c.args.end) (sym a.next) next.3,
            filter_same (is_kept (λ p. contains nat_cmp c.args.dropped.now p)) s.0 l.at gone ∙ s.5,
            omega (arith, c.read_head.ensures.reads.looks.reads.idx, s.6, sum_by_push (units_at (unit_at file.idx)) s.0 l.at),
          );
    }
