use Rattle.std.proofs.Common.{◌≡◌, ◌+◌, ◌*◌, ◌/◌, ◌%◌, ◌^◌, ℕ, List, [], ◌∷◌, ◌++◌, map, cond, not, Bool, true, ap, ◌∙◌, sym, arith, subst, rules}
use Rattle.std.proofs.lemmas.Result.{err_from_is_err_and}
use Rattle.rpm_hindex.proofs.Vocabulary.{contains, Files, filter, follow, Idx, Index, index_in, is_kept, is_placed, is_sound, IsRecordAhead, IsFaultOf, IsRecordHead}
use Rattle.rpm_hindex.proofs.Vocabulary.{looks_at_from, looks_at_then, nat_cmp, row_at, unit_at}
use Rattle.rpm_hindex.proofs.Collects.{one_more, at_fault, at_end}
use Rattle.rpm_hindex.proofs.Gathers.{kept_more}
use Rattle.rpm_hindex.proofs.kept_rows.push_from.Goals as goal

pub returns-clause-told : goal.returns-clause-told
returns-clause-told g c = λ told.
    let l = c.loop-at in
    let B = c.args.extent.buckets in
    let file : Files = g.D.Disk.files c.args.disk.now in
    let kept = is_kept (λ p. contains nat_cmp c.args.dropped.now p) in
    let s = l.invariant.so_far told in
    at_end (index_in B file.idx) c.args.bucket c.args.from s.0 l.at s.2 (λ (places : List ℕ) (done : Unit {0}). l.rows
    ≡ c.args.rows.now ++ map (row_at (unit_at file.idx)) (filter kept places)) tt c.loop-at-test.false s.1

pub returns-in_err-next-clause-told : goal.returns-in_err-next-clause-told
returns-in_err-next-clause-told g c = λ told.
    let l = c.loop-at in
    let B = c.args.extent.buckets in
    let file : Files = g.D.Disk.files c.args.disk.now in
    let s = l.invariant.so_far told in
    let fault = subst (λ (f : Files). IsFaultOf (follow (index_in B f.idx) c.args.bucket l.at l.at) c.in_err-next.field-0.0)
    ((l.invariant.looks.untouched told).same) (c.in_err-next.ensures.fault told c.args.bucket) in
    let left = err_from_is_err_and c.from_residual.result c.from_residual.ensures.1 in
    rw (left.1, left.2) (at_fault (index_in B file.idx) c.args.bucket c.args.from s.0 l.at s.2 c.in_err-next.field-0.0 fault)

pub returns-in_err-push_row-clause-reads : goal.returns-in_err-push_row-clause-reads
returns-in_err-push_row-clause-reads g c = record {
  looks =
      let l = c.loop-at in
      let looks = looks_at_then _ Idx g.met.D.Disk.follows_trans c.args.disk.now l.disk c.read_head.new.disk l.invariant.looks
      (looks_at_from _ Idx 16 l.disk c.read_head.new.disk c.read_head.ensures.reads.looks) in
      looks_at_then _ Idx g.met.D.Disk.follows_trans c.args.disk.now c.read_head.new.disk c.push_row.new.disk looks
      (looks_at_from _ Idx (16 * ((c.in_ok-next.field-0.head.size % 2 ^ 28 + 15) / 16)) c.read_head.new.disk c.push_row.new.disk
      c.push_row.ensures.reads.looks);
  cause = search rules;
}

pub returns-in_err-push_row-clause-told : goal.returns-in_err-push_row-clause-told
returns-in_err-push_row-clause-told g c = λ told.
    let l = c.loop-at in
    let B = c.args.extent.buckets in
    let b = c.args.bucket in
    let file : Files = g.D.Disk.files c.args.disk.now in
    let s = l.invariant.so_far told in
    let looks = looks_at_then _ Idx g.met.D.Disk.follows_trans c.args.disk.now l.disk c.read_head.new.disk l.invariant.looks
    (looks_at_from _ Idx 16 l.disk c.read_head.new.disk c.read_head.ensures.reads.looks) in
    let fault = subst (λ (f : Files). IsFaultOf (follow (index_in B f.idx) b c.in_ok-next.field-0.head.at c.in_ok-next.field-0.head.at)
    c.in_err-push_row.field-0.0)
    ((looks.untouched told).same) (c.in_err-push_row.ensures.fault told) in
    let left = err_from_is_err_and c.from_residual-in_err-push_row.result c.from_residual-in_err-push_row.ensures.1 in
    rw (left.1, left.2) (at_fault (index_in B file.idx) b c.args.from s.0 l.at s.2 c.in_err-push_row.field-0.0
    (subst (λ (q : ℕ). IsFaultOf (follow (index_in B file.idx) b q q) c.in_err-push_row.field-0.0) c.in_ok-next.ensures.here fault))

pub loop-at-preserved : goal.loop-at-preserved
loop-at-preserved g c =
    let l = c.loop-at in
    let B = c.args.extent.buckets in
    let b = c.args.bucket in
    let file : Files = g.D.Disk.files c.args.disk.now in
    let x : Index = index_in B file.idx in
    let kept = is_kept (λ p. contains nat_cmp c.args.dropped.now p) in
    let looks = looks_at_then _ Idx g.met.D.Disk.follows_trans c.args.disk.now l.disk c.read_head.new.disk l.invariant.looks
    (looks_at_from _ Idx 16 l.disk c.read_head.new.disk c.read_head.ensures.reads.looks) in
    record {
      linked = c.in_ok-next.ensures.next.linked;
      looks = looks_at_then _ Idx g.met.D.Disk.follows_trans c.args.disk.now c.read_head.new.disk c.push_row.new.disk looks
          (looks_at_from _ Idx (16 * ((c.in_ok-next.field-0.head.size % 2 ^ 28 + 15) / 16)) c.read_head.new.disk c.push_row.new.disk
          c.push_row.ensures.reads.looks);
      faults = omega (arith, l.invariant.faults, c.read_head.ensures.reads.cause.later, c.push_row.ensures.reads.cause.later);
      so_far = λ told.
          let s = l.invariant.so_far told in
          let ahead = subst (λ (f : Files). IsRecordAhead (index_in B f.idx) l.at c.in_ok-next.field-0) ((l.invariant.looks.untouched told).same)
          (c.in_ok-next.ensures.ahead told) in
          let sound = subst (λ (f : Files). is_sound (index_in B f.idx) b c.in_ok-next.field-0.head.at ≡ true) ((looks.untouched told).same)
          (c.in_ok-push_row.ensures.sound told) in
          let here = subst (λ (q : ℕ). is_sound x b q ≡ true) c.in_ok-next.ensures.here sound in
          let held = c.contains-is_kept.result in
          let row = subst (λ (f : Files). c.push_row.new.rows ≡ cond (not held) (l.rows ++ row_at (unit_at f.idx) c.in_ok-next.field-0.head.at ∷ []) l.rows)
          ((looks.untouched told).same) (c.in_ok-push_row.ensures.row told) in
          let row_here = subst (λ (q : ℕ). c.push_row.new.rows ≡ cond (not held) (l.rows ++ row_at (unit_at file.idx) q ∷ []) l.rows)
          c.in_ok-next.ensures.here row
          ∙ ap (λ (is : Bool). cond (not is) (l.rows ++ row_at (unit_at file.idx) l.at ∷ []) l.rows) c.contains-is_kept.ensures in (
            s.0 ++ l.at ∷ [],
            kept_more (row_at (unit_at file.idx)) kept s.0 l.at c.args.rows.now l.rows c.push_row.new.rows s.1 row_here,
            one_more x b c.args.from s.0 l.at s.2 c.in_ok-next.field-0.next (omega (arith, c.loop-at-test.true)) here ahead.next,
          );
    }

pub push_row-requires-clause-placed : goal.push_row-requires-clause-placed
push_row-requires-clause-placed g c = λ told.
    let B = c.args.extent.buckets in
    subst (λ (q : ℕ). is_placed (index_in B (g.D.Disk.files c.read_head.new.disk).idx) q ≡ true) (sym c.in_ok-next.ensures.here)
    (subst (λ (f : Files). is_placed (index_in B f.idx) c.loop-at.at ≡ true) (sym ((c.in_ok-next.ensures.reads.looks.untouched told).same))
    (c.in_ok-next.ensures.ahead told).placed)

pub push_row-requires-clause-head : goal.push_row-requires-clause-head
push_row-requires-clause-head g c = λ told.
    subst (λ (f : Files). IsRecordHead (unit_at f.idx) c.in_ok-next.field-0.head) (sym ((c.in_ok-next.ensures.reads.looks.untouched told).same))
    (c.in_ok-next.ensures.ahead told).head
