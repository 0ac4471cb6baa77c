use Rattle.std.proofs.Common.{◌+◌, ◌-◌, Option, Some, None, IfSome, Err, sym, ap, subst, ◌∙◌, arith}
use Rattle.rpm_group.proofs.Vocabulary.{entries_of, Files, Head, HeadIs, heads_behind, IsHead, laid_files, Log, looks_at_then}
use Rattle.rpm_group.proofs.CommitRecords.{read_as}
use Rattle.rpm_group.proofs.Applied.{left_wrong, done_more, done_all}
use Rattle.rpm_group.proofs.load.hold_entries.Goals as goal

pub returns-in_default-found-clause-fault : goal.returns-in_default-found-clause-fault
returns-in_default-found-clause-fault g c = λ told.
    let D = g.D.Disk in
    let files : Files = D.files c.args.disk.now in
    let so_far = c.loop-k.invariant.so_far told files in
    left_wrong (c.args.commit_record.entries - c.loop-k._k) c.loop-k.p c.args.commit_record.last files.log
    (c.args.commit_record.entries - c.loop-k._k - 1) so_far.rest
    (omega arith) so_far.heads_left
    (read_as c.args.commit_record.last c.loop-k.p files (D.files c.loop-k.disk) c.in-Ok.found None (c.loop-k.invariant.looks.untouched told).same
    c.in_default-found.is (c.in-Ok.ensures.says told))

pub loop-k-preserved : goal.loop-k-preserved
loop-k-preserved g c =
    let D = g.D.Disk in
    let inv = c.loop-k.invariant in
    let head = c.in-Some.head in
    let is_head : IsHead c.args.commit_record.last c.loop-k.p head = subst (λ (h : Option Head). IfSome h (λ x. IsHead c.args.commit_record.last c.loop-k.p x))
    c.in-Some.is c.in-Ok.ensures.head in
    record {
      place = omega (arith, is_head.within);
      so_far = λ told files.
          let first : Files = D.files c.args.disk.now in
          let says : HeadIs c.args.commit_record.last c.loop-k.p first.log head = read_as c.args.commit_record.last c.loop-k.p first (D.files c.loop-k.disk)
          c.in-Ok.found (Some head) (inv.looks.untouched told).same c.in-Some.is (c.in-Ok.ensures.says told) in
          let same = (c.read_head.ensures.reads.looks.untouched told).same ∙ (inv.looks.untouched told).same in
          done_more (entries_of (heads_behind c.args.commit_record first.log))
          (c.args.commit_record.entries - c.loop-k._k) c.loop-k.p c.args.commit_record.last first.log
          (laid_files c.args.held.now files) (laid_files c.loop-k.held files) (laid_files c.hold_units.new.held files)
          (c.args.commit_record.entries - c.loop-k._k - 1) head (inv.so_far told files) (omega arith) says (c.requires.last told)
          (c.args.commit_record.entries - (c.loop-k._k + 1)) (c.loop-k.p + (1 + head.count)) (D.files c.read_head.new.disk).log (omega arith)
          (omega (arith, says.count)) (ap (λ (f : Files). f.log) same) (c.in_ok-hold_units.ensures.held told files);
      looks =
          looks_at_then _ Log g.met.D.Disk.follows_trans c.args.disk.now c.read_head.new.disk c.hold_units.new.disk
          (looks_at_then _ Log g.met.D.Disk.follows_trans c.args.disk.now c.loop-k.disk c.read_head.new.disk inv.looks
          c.read_head.ensures.reads.looks)
          c.hold_units.ensures.reads.looks;
      faults = omega (arith, inv.faults, c.read_head.ensures.reads.cause.later, c.hold_units.ensures.reads.cause.later);
    }

pub returns-clause-held : goal.returns-clause-held
returns-clause-held g c = λ told files.
    let first : Files = g.D.Disk.files c.args.disk.now in
    done_all (entries_of (heads_behind c.args.commit_record first.log))
    (c.args.commit_record.entries - c.loop-k._k) c.loop-k.p c.args.commit_record.last first.log
    (laid_files c.args.held.now files) (laid_files c.loop-k.held files) (omega arith) (c.loop-k.invariant.so_far told files)

pub returns-in_err-hold_units-clause-reads : goal.returns-in_err-hold_units-clause-reads
returns-in_err-hold_units-clause-reads g c = record {
  looks =
      looks_at_then _ Log g.met.D.Disk.follows_trans c.args.disk.now c.read_head.new.disk c.hold_units.new.disk
      (looks_at_then _ Log g.met.D.Disk.follows_trans c.args.disk.now c.loop-k.disk c.read_head.new.disk c.loop-k.invariant.looks
      c.read_head.ensures.reads.looks)
      c.hold_units.ensures.reads.looks;
  cause = record {
    later = omega (arith, c.loop-k.invariant.faults, c.read_head.ensures.reads.cause.later, c.hold_units.ensures.reads.cause.later);
    rose = λ is.
        let same = rw is at c.from_residual.ensures.1 in
        let failed = c.hold_units.ensures.reads.cause.rose (c.in_err-hold_units.was ∙ ap Err (sym same)) in
        omega (arith, c.loop-k.invariant.faults, c.read_head.ensures.reads.cause.later, failed);
  };
}
