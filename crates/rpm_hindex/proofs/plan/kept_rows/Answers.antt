use Rattle.std.proofs.Common.{◌≡◌, ℕ, ◌++◌, List, map, arith, rules, subst, ap, ◌∙◌}
use Rattle.rpm_hindex.proofs.Vocabulary.{chain, contains, Files, filter, HitsAre, Idx, index_in, is_kept, IsFaultOf, kept_below, looks_at_none}
use Rattle.rpm_hindex.proofs.Vocabulary.{looks_at_then, nat_cmp, row_at, unit_at}
use Rattle.rpm_hindex.proofs.Gathers.{kept_next}
use Rattle.rpm_hindex.proofs.Honest.{bad_chain}
use Rattle.rpm_hindex.proofs.plan.kept_rows.Goals as goal

pub loop-bucket-preserved : goal.loop-bucket-preserved
loop-bucket-preserved g c =
    let l = c.loop-bucket in
    record {
      so_far = λ told.
          let B = c.args.extent.buckets in
          let kept = is_kept (λ p. contains nat_cmp c.args.dropped.now p) in
          let file : Files = g.D.Disk.files c.args.disk.now in
          let said = subst (λ (f : Files). HitsAre (λ (places : List ℕ) (done : Unit {0}). c.push_chain.new.rows
          ≡ l.rows ++ map (row_at (unit_at f.idx)) (filter kept places)) (chain (index_in B f.idx) l.bucket) tt) ((l.invariant.looks.untouched told).same)
          (c.in_default.ensures.told told) in
          kept_next (index_in B file.idx) kept l.bucket l.rows c.push_chain.new.rows said (l.invariant.so_far told);
      looks = looks_at_then _ Idx g.met.D.Disk.follows_trans _ _ _ l.invariant.looks c.push_chain.ensures.reads.looks;
      faults = omega (arith, l.invariant.faults, c.push_chain.ensures.reads.cause.later);
    }

pub returns-in-Err-clause-bad : goal.returns-in-Err-clause-bad
returns-in-Err-clause-bad g c = λ told.
    let l = c.loop-bucket in
    let B = c.args.extent.buckets in
    let file : Files = g.D.Disk.files c.args.disk.now in
    bad_chain B file.idx c.prepare_fault.result l.bucket (omega (arith, c.loop-bucket-test.true))
    (c.prepare_fault.ensures.fault _ (subst (λ (f : Files). IsFaultOf (chain (index_in B f.idx) l.bucket) c.in-Err.fault)
    ((l.invariant.looks.untouched told).same) (c.in-Err.ensures.told told)))

pub loop-bucket-init : goal.loop-bucket-init
loop-bucket-init g c = record {
  so_far = λ told. c.new-rows.ensures;
  looks = looks_at_none _ Idx g.met.D.Disk.follows_refl c.args.disk.now;
  faults = omega arith;
}

pub returns-clause-rows : goal.returns-clause-rows
returns-clause-rows g c = λ told.
    let l = c.loop-bucket in
    let B = c.args.extent.buckets in
    let all : l.bucket ≡ B = omega (arith, c.loop-bucket.auto.bucket-end, c.loop-bucket-test.false) in
    l.invariant.so_far told
    ∙ ap (kept_below (index_in B (g.D.Disk.files c.args.disk.now).idx) (is_kept (λ p. contains nat_cmp c.args.dropped.now p))) all

pub returns-clause-reads : goal.returns-clause-reads
returns-clause-reads g c =
    let i = c.loop-bucket.invariant in
    record { looks = i.looks; cause = record { later = i.faults; rose = λ is. absurd cc } }

pub returns-in-Err-clause-reads : goal.returns-in-Err-clause-reads
returns-in-Err-clause-reads g c = record {
  looks =
      looks_at_then _ Idx g.met.D.Disk.follows_trans c.args.disk.now c.loop-bucket.disk c.push_chain.new.disk c.loop-bucket.invariant.looks
      c.push_chain.ensures.reads.looks;
  cause = search rules;
}
