use Rattle.std.proofs.Common.{subst, rules}
use Rattle.rpm_hindex.proofs.Vocabulary.{Files, HasFault, HasNoFault, Idx, index_in, IsBadSoFar, looks_at_then}
use Rattle.rpm_hindex.proofs.Honest.{faulty_bad, faulty_for, bad_chain, bad_so_far, bad_other, not_bad}
use Rattle.rpm_hindex.proofs.Gone.{bad_for}
use Rattle.rpm_hindex.proofs.kept_rows.drop_rows.Goals as goal

pub returns-then-not-is_count_fault-clause-bad : goal.returns-then-not-is_count_fault-clause-bad
returns-then-not-is_count_fault-clause-bad g c = λ told honest.
    let B = c.args.change.now.extent.buckets in
    let file : Files = g.D.Disk.files c.args.disk.now in
    faulty_bad B file.idx c.in-Err.fault
    (bad_other B file.idx c.in-Err.fault (c.is_count_fault.ensures.no c.if-not-is_count_fault.true) ((c.in-Err.ensures.refused told).bad honest))

pub returns-then-not-is_count_fault-clause-counts : goal.returns-then-not-is_count_fault-clause-counts
returns-then-not-is_count_fault-clause-counts g c = λ told fresh honest.
    let B = c.args.change.now.extent.buckets in
    let file : Files = g.D.Disk.files c.args.disk.now in
    faulty_for c.args.rows.now B file.idx c.in-Err.fault
    (bad_other B file.idx c.in-Err.fault (c.is_count_fault.ensures.no c.if-not-is_count_fault.true) ((c.in-Err.ensures.refused told).bad honest))

pub returns-in-Ok-clause-bad : goal.returns-in-Ok-clause-bad
returns-in-Ok-clause-bad g c = λ told honest.
    let B = c.args.change.now.extent.buckets in
    let file : Files = g.D.Disk.files c.args.disk.now in
    let none = subst (λ (f : Files). HasNoFault (index_in B f.idx)) ((c.drop_each.ensures.reads.looks.untouched told).same) (c.in-Ok.ensures.none told) in
    bad_so_far B file.idx c.in-Err.fault none ((c.in-Err.ensures.refused told).bad honest)

pub returns-in-Err-check_chains-clause-bad : goal.returns-in-Err-check_chains-clause-bad
returns-in-Err-check_chains-clause-bad g c = λ told honest.
    let B = c.args.change.now.extent.buckets in
    let file : Files = g.D.Disk.files c.args.disk.now in
    let f = subst (λ (f : Files). HasFault (index_in B f.idx) c.in-Err-check_chains.first) ((c.drop_each.ensures.reads.looks.untouched told).same)
    (c.in-Err-check_chains.ensures.fault told) in
    faulty_bad B file.idx c.prepare_fault.result (bad_chain B file.idx c.prepare_fault.result f.0 f.1 (c.prepare_fault.ensures.fault _ f.2))

pub returns-in-Err-check_chains-clause-counts : goal.returns-in-Err-check_chains-clause-counts
returns-in-Err-check_chains-clause-counts g c = λ told fresh honest.
    let B = c.args.change.now.extent.buckets in
    let file : Files = g.D.Disk.files c.args.disk.now in
    let f = subst (λ (f : Files). HasFault (index_in B f.idx) c.in-Err-check_chains.first) ((c.drop_each.ensures.reads.looks.untouched told).same)
    (c.in-Err-check_chains.ensures.fault told) in
    faulty_for c.args.rows.now B file.idx c.prepare_fault.result
    (bad_chain B file.idx c.prepare_fault.result f.0 f.1 (c.prepare_fault.ensures.fault _ f.2))

pub returns-in-Ok-clause-counts : goal.returns-in-Ok-clause-counts
returns-in-Ok-clause-counts g c = λ told fresh honest.
    let B = c.args.change.now.extent.buckets in
    let file : Files = g.D.Disk.files c.args.disk.now in
    let none = subst (λ (f : Files). HasNoFault (index_in B f.idx)) ((c.drop_each.ensures.reads.looks.untouched told).same) (c.in-Ok.ensures.none told) in
    bad_for c.args.rows.now c.args.change.now file.idx c.in-Err.fault (c.is_count_fault.ensures.yes c.if-not-is_count_fault.false) fresh
    ((c.in-Err.ensures.refused told).short none)

pub returns-in-Err-check_chains-clause-reads : goal.returns-in-Err-check_chains-clause-reads
returns-in-Err-check_chains-clause-reads g c = record {
  looks =
      looks_at_then _ Idx g.met.D.Disk.follows_trans c.args.disk.now c.drop_each.new.disk c.check_chains.new.disk c.drop_each.ensures.reads.looks
      c.check_chains.ensures.reads.looks;
  cause = search rules;
}

pub returns-in-Ok-clause-reads : goal.returns-in-Ok-clause-reads
returns-in-Ok-clause-reads g c = record {
  looks =
      looks_at_then _ Idx g.met.D.Disk.follows_trans c.args.disk.now c.drop_each.new.disk c.check_chains.new.disk c.drop_each.ensures.reads.looks
      c.check_chains.ensures.reads.looks;
  cause = search rules;
}

pub returns-in-Ok-clause-cost : goal.returns-in-Ok-clause-cost
returns-in-Ok-clause-cost g c = λ told whole honest.
    let B = c.args.change.now.extent.buckets in
    let file : Files = g.D.Disk.files c.args.disk.now in
    absurd (not_bad B file.idx whole (subst (IsBadSoFar B file.idx) (c.is_count_fault.ensures.yes c.if-not-is_count_fault.false)
    ((c.in-Err.ensures.refused told).bad honest)))

pub returns-in-Err-check_chains-clause-cost : goal.returns-in-Err-check_chains-clause-cost
returns-in-Err-check_chains-clause-cost g c = λ told whole honest.
    let B = c.args.change.now.extent.buckets in
    let file : Files = g.D.Disk.files c.args.disk.now in
    absurd (not_bad B file.idx whole (subst (IsBadSoFar B file.idx) (c.is_count_fault.ensures.yes c.if-not-is_count_fault.false)
    ((c.in-Err.ensures.refused told).bad honest)))
