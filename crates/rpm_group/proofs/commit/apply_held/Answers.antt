use Rattle.std.proofs.Common.{List, arith}
use Rattle.rpm_outside.specs.declared.disk.Disk as disk
use Rattle.rpm_group.proofs.Vocabulary.{Entry, Files, leaves_then, leaves_weaker, CrashLeavesOnly, then_back, WasWithin, within_then}
use Rattle.rpm_group.proofs.commit.apply_held.Goals as goal

-- two runs of writes that the same entries make
both_within : {D : Type 0} (g : disk.Ghosts D) (entries : List Entry) (old mid new : D)
    → ((image : Files) → g.left_since mid (g.moment mid) image → g.left_since mid (g.moment old) image)
    → CrashLeavesOnly g old mid (WasWithin entries (g.left_since old (g.moment old)))
    → CrashLeavesOnly g mid new (WasWithin entries (g.left_since mid (g.moment mid)))
    → CrashLeavesOnly g old new (WasWithin entries (g.left_since old (g.moment old)))
both_within g entries old mid new earlier one two =
    leaves_then g old mid new (WasWithin entries (g.left_since old (g.moment old))) one
    (leaves_weaker g mid new (WasWithin entries (g.left_since mid (g.moment mid))) (WasWithin entries (g.left_since old (g.moment old)))
    (λ image was.
    let so_far = one.each was.0 (earlier was.0 was.1) in
    (so_far.0, so_far.1, within_then entries so_far.0 was.0 image so_far.2 was.2))
    two)

pub returns-in_err-apply_runs-2-clause-images : goal.returns-in_err-apply_runs-2-clause-images
returns-in_err-apply_runs-2-clause-images g c = λ told entries transaction.
    let D = g.D.Disk in
    let old = c.args.disk.now in
    let mid = c.apply_runs.new.disk in
    both_within D entries old mid c.apply_runs-2.new.disk
    (λ image left. g.met.D.Disk.earlier mid (D.moment old) (D.moment mid) image told c.apply_runs.ensures.reads.nothing.later (omega arith) left)
    (c.apply_runs.ensures.images told entries transaction.pkg) (c.apply_runs-2.ensures.images told entries transaction.idx)

pub returns-clause-images : goal.returns-clause-images
returns-clause-images g c = λ told entries transaction.
    let D = g.D.Disk in
    let old = c.args.disk.now in
    let mid = c.apply_runs.new.disk in
    let last = c.apply_runs-2.new.disk in
    then_back D old last c.sync_files.new.disk (WasWithin entries (D.left_since old (D.moment old)))
    (λ image left. g.met.D.Disk.earlier last (D.moment old) (D.moment last) image told
    (omega (arith, c.apply_runs.ensures.reads.nothing.later, c.apply_runs-2.ensures.reads.nothing.later)) (omega arith) left)
    (both_within D entries old mid last
    (λ image left. g.met.D.Disk.earlier mid (D.moment old) (D.moment mid) image told c.apply_runs.ensures.reads.nothing.later (omega arith) left)
    (c.apply_runs.ensures.images told entries transaction.pkg) (c.apply_runs-2.ensures.images told entries transaction.idx))
    (c.sync_files.ensures.images told)
