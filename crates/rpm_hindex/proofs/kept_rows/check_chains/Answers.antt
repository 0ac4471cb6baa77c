use Rattle.std.proofs.Common.{ℕ, arith, sym, subst, inl, inr}
use Rattle.std.specs.Prelude.{IsOk}
use Rattle.std.proofs.lemmas.Bool.{cases_eq}
use Rattle.rpm_hindex.proofs.Vocabulary.{chain, Files, Idx, index_in, IsFaultOf, looks_at_then}
use Rattle.rpm_hindex.proofs.Results.{handed_on}
use Rattle.rpm_hindex.proofs.kept_rows.check_chains.Goals as goal

pub loop-bucket-preserved : goal.loop-bucket-preserved
loop-bucket-preserved g c =
    let l = c.loop-bucket in
    record {
      none = λ told b lt.
          let B = c.args.extent.buckets in
          let file : Files = g.D.Disk.files c.args.disk.now in
          let here = subst (λ (f : Files). IsOk (chain (index_in B f.idx) l.bucket)) ((l.invariant.looks.untouched told).same)
          (c.in_ok-check_chain.ensures.none told) in
          elim (cases_eq b l.bucket) [
            | inl same ↦ subst (λ (k : ℕ). IsOk (chain (index_in B file.idx) k)) (sym same) here
            | inr other ↦ l.invariant.none told b (omega (arith, lt, other))
          ];
      looks = looks_at_then _ Idx g.met.D.Disk.follows_trans _ _ _ l.invariant.looks c.check_chain.ensures.reads.looks;
      faults = omega (arith, l.invariant.faults, c.check_chain.ensures.reads.cause.later);
    }

pub returns-in_err-check_chain-clause-fault : goal.returns-in_err-check_chain-clause-fault
returns-in_err-check_chain-clause-fault g c =
    handed_on c.from_residual.result c.in_err-check_chain.field-0.0 _ c.from_residual.ensures.1 (λ told.
    let l = c.loop-bucket in
    let B = c.args.extent.buckets in (
      l.bucket,
      omega (arith, c.loop-bucket-test.true),
      subst (λ (f : Files). IsFaultOf (chain (index_in B f.idx) l.bucket) c.in_err-check_chain.field-0.0) ((l.invariant.looks.untouched told).same)
          (c.in_err-check_chain.ensures.fault told),
    ))

pub returns-clause-none : goal.returns-clause-none
returns-clause-none g c = λ told b lt. c.loop-bucket.invariant.none told b (omega (arith, lt, c.loop-bucket-test.false))
