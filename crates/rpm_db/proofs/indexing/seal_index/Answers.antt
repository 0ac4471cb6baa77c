use Rattle.std.proofs.Common.{refl, arith}
use Rattle.rpm_db.proofs.Vocabulary.{Remade, runs_index, seal_unit, SealedOrSame}
use Rattle.rpm_db.proofs.Making.{CanSeal, sealing, ordered_some}
use Rattle.rpm_db.proofs.indexing.seal_index.Goals as goal

pub returns-clause-runs : goal.returns-clause-runs
returns-clause-runs g c =
    let n = c.args.generation in
    let b = c.args.index.now.pending in
    let idx = (g.D.Disk.files c.args.disk.now).idx in
    runs_index g.D.Disk Remade (SealedOrSame (seal_unit n b)) (CanSeal n b idx) 0 c.args.disk.now c.seal.new.disk (sealing n b idx)
    (λ told. record {
      same = refl;
      written = c.requires.here told;
      some = omega (arith, (c.requires.keeps told).units, ordered_some b c.args.index.now.units c.args.index.now.second c.requires.ordered);
      seal = c.seal.ensures.whichever told (c.requires.here told).whole;
    })
    (λ told image left. record {
      same = c.requires.durable told image left;
      written = c.requires.each told image left;
      some = omega (arith, (c.requires.keeps told).units, ordered_some b c.args.index.now.units c.args.index.now.second c.requires.ordered);
      seal = c.seal.ensures.whichever told (c.requires.here told).whole;
    }) c.seal.ensures.writes.changes
