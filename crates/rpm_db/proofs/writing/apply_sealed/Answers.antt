use Rattle.std.proofs.Common.{refl, ap, arith, rules}
use Rattle.rpm_db.proofs.Vocabulary.{changes_between, changes_weaker, Idx, IndexTo, seal_unit, SealedOrSame, IndexState, VoidOrSameSeal}
use Rattle.rpm_db.proofs.Making.{ordered_some, ordered_pending}
use Rattle.rpm_db.proofs.Results.{three_ok}
use Rattle.rpm_db.proofs.SealedRows.{IsWritten, unsealed_yet, sealed_now, sealing_rows, is_written}
use Rattle.rpm_db.proofs.writing.apply_sealed.Goals as goal

pub seal-requires-clause-written : goal.seal-requires-clause-written
seal-requires-clause-written g c =
    let i = c.apply.new.self in
    ordered_pending i.pending i.units i.second (c.in-Ok.ensures.ordered c.requires.change.ordered)

pub returns-in_default-clause-writes : goal.returns-in_default-clause-writes
returns-in_default-clause-writes g c =
    let D = g.D.Disk in
    let file = (D.files c.args.disk.now).idx in
    record {
      changes = changes_weaker D Idx VoidOrSameSeal (IndexTo c.args.generation c.args.plan.work
          file) 0 0
          c.args.disk.now c.apply.new.disk (omega arith) (unsealed_yet c.args.generation c.args.plan.work file) c.in_default.ensures.writes.changes;
      cause = search rules;
    }

pub returns : goal.returns
returns g c =
    let D = g.D.Disk in
    let n = c.args.generation in
    let work = c.args.plan.work in
    let b = c.apply.new.disk in
    let file = (D.files c.args.disk.now).idx in
    let mid = (D.files b).idx in
    let i = c.apply.new.self in
    let e = c.in-Ok.ensures in
    let unit = seal_unit n i.pending in
    let ordered = e.ordered c.requires.change.ordered in
    let some = ordered_some i.pending i.units i.second ordered in
    record {
      applied = three_ok c.seal.result (λ current is left. record {
        current = current ordered;
        grows = omega (arith, ap (λ (s : IndexState). s.units) is, e.value.grows);
        kept = left.kept;
        sealed = λ told.
            sealed_now n work file unit mid (D.files c.seal.new.disk).idx (ap (seal_unit n) e.value.pending)
            (is_written n work file i.pending mid mid e.value.pending (e.left.written told) (omega (arith, (e.left.kept told).units, some))
            (c.seal.ensures.whichever told)
            refl) (left.written told);
        durable = left.durable;
      }) c.seal.ensures.current c.seal.ensures.state c.seal.ensures.left;
      writes = record {
        changes = changes_between D Idx g.met.D.Disk.follows_trans VoidOrSameSeal (SealedOrSame unit)
            (IndexTo n work file) (IsWritten n work file) 0 0 0 c.args.disk.now b c.seal.new.disk (omega arith) (unsealed_yet n work file)
            (sealing_rows n work file unit (ap (seal_unit n) e.value.pending))
            (λ told. is_written n work file i.pending mid mid e.value.pending (e.left.written told) (omega (arith, (e.left.kept told).units, some))
            (c.seal.ensures.whichever told)
            refl)
            (λ told image left. is_written n work file i.pending mid image.idx e.value.pending (e.left.written told) (omega (
              arith,
              (e.left.kept told).units,
              some,
            ))
            (c.seal.ensures.whichever told) (e.left.durable told image left)) e.writes.changes c.seal.ensures.writes.changes;
        cause = search rules;
      };
    }
