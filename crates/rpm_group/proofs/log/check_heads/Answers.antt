use Rattle.std.proofs.Common.{◌≡◌, ℕ, ◌+◌, ◌-◌, [], length, ap, subst, arith}
use Rattle.std.proofs.Common.{Option, Some, None, IfSome}
use Rattle.rpm_group.proofs.Vocabulary.{Files, Head, HeadIs, heads, heads_behind, IsHead, Log, looks_at_none, looks_at_then}
use Rattle.rpm_group.proofs.CommitRecords.{read_as, next_wrong, next_right, end_right, end_wrong}
use Rattle.rpm_group.proofs.log.check_heads.Goals as goal

less : (n : ℕ) → n ≡ n - 0
less n = omega arith

pub loop-k-init : goal.loop-k-init
loop-k-init g c = record {
  place = omega arith;
  so_far = λ told. ([], ap (λ (n : ℕ). heads n 1 c.args.commit_record.last (g.D.Disk.files c.args.disk.now).log) (less c.args.commit_record.entries));
  looks = looks_at_none _ Log g.met.D.Disk.follows_refl c.args.disk.now;
  faults = omega arith;
}

pub read_head-requires : goal.read_head-requires
read_head-requires g c = λ told. let same = (c.loop-k.invariant.looks.untouched told).same in
    omega (arith, c.requires told, ap (λ (f : Files). length f.log) same)

pub returns-in_default-clause-says : goal.returns-in_default-clause-says
returns-in_default-clause-says g c = λ told.
    let files = g.D.Disk.files c.args.disk.now in
    let so_far = c.loop-k.invariant.so_far told in
    let left = c.args.commit_record.entries - c.loop-k._k - 1 in
    next_wrong (heads_behind c.args.commit_record files.log) so_far.0
    (c.args.commit_record.entries - c.loop-k._k) c.loop-k.p c.args.commit_record.last files.log left so_far.1
    (omega arith)
    (read_as c.args.commit_record.last c.loop-k.p files (g.D.Disk.files c.loop-k.disk) c.in_ok-head.field-0 None (c.loop-k.invariant.looks.untouched told).same
    c.in_default.is (c.in_ok-head.ensures.says told))

pub loop-k-preserved : goal.loop-k-preserved
loop-k-preserved g c =
    let inv = c.loop-k.invariant in
    let head = c.in-Some.head in
    let is_head : IsHead c.args.commit_record.last c.loop-k.p head = subst (λ (h : Option Head). IfSome h (λ x. IsHead c.args.commit_record.last c.loop-k.p x))
    c.in-Some.is c.in_ok-head.ensures.head in
    record {
      place = omega (arith, is_head.within);
      so_far = λ told.
          let files = g.D.Disk.files c.args.disk.now in
          let so_far = inv.so_far told in
          let left = c.args.commit_record.entries - c.loop-k._k - 1 in
          let says : HeadIs c.args.commit_record.last c.loop-k.p files.log head = read_as c.args.commit_record.last c.loop-k.p files
          (g.D.Disk.files c.loop-k.disk)
          c.in_ok-head.field-0 (Some head) (inv.looks.untouched told).same c.in-Some.is (c.in_ok-head.ensures.says told) in
          next_right (heads_behind c.args.commit_record files.log) so_far.0
          (c.args.commit_record.entries - c.loop-k._k) c.loop-k.p c.args.commit_record.last files.log left
          so_far.1 (omega arith)
          (c.args.commit_record.entries - (c.loop-k._k + 1)) (c.loop-k.p + (1 + head.count)) (omega arith) says.right (omega (arith, says.count));
      looks = looks_at_then _ Log g.met.D.Disk.follows_trans c.args.disk.now c.loop-k.disk c.read_head.new.disk inv.looks
          c.read_head.ensures.reads.looks;
      faults = omega (arith, inv.faults, c.read_head.ensures.reads.cause.later);
    }

pub returns-then-p-commit_record-clause-says : goal.returns-then-p-commit_record-clause-says
returns-then-p-commit_record-clause-says g c = λ told.
    let log = (g.D.Disk.files c.args.disk.now).log in
    let so_far = c.loop-k.invariant.so_far told in
    end_wrong (heads_behind c.args.commit_record log) so_far.0 (c.args.commit_record.entries - c.loop-k._k) c.loop-k.p c.args.commit_record.last log so_far.1
    (omega arith)
    c.if-p-commit_record.true

pub returns-clause-says : goal.returns-clause-says
returns-clause-says g c = λ told.
    let log = (g.D.Disk.files c.args.disk.now).log in
    let so_far = c.loop-k.invariant.so_far told in
    end_right (heads_behind c.args.commit_record log) so_far.0 (c.args.commit_record.entries - c.loop-k._k) c.loop-k.p c.args.commit_record.last log so_far.1
    (omega arith)
    c.if-p-commit_record.false
