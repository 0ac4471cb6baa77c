use Rattle.std.proofs.Common.{refl, ◌∙◌}
use Rattle.rpm_exercise.proofs.Vocabulary.{err_is}
use Rattle.rpm_exercise.proofs.Through.{memory_through, one_through}
use Rattle.rpm_exercise.proofs.rounds.put_one.Goals as goal

pub put_within-requires-clause-own : goal.put_within-requires-clause-own
put_within-requires-clause-own g c = rw (c.deref.ensures.value, c.in_ok-blob.ensures.again) refl

pub returns-clause-went : goal.returns-clause-went
returns-clause-went g c = rw (c.deref.ensures.value ∙ c.in_ok-blob.ensures.laid) at (one_through g.D.Disk c.put_within.ensures)

pub returns-in_err-blob-clause-went : goal.returns-in_err-blob-clause-went
returns-in_err-blob-clause-went g c =
    rw (err_is c.from_residual.result c.from_residual.ensures)
    (memory_through g.D.Disk g.met.D.Disk.follows_refl c.args.disk.now c.args.db.now c.requires.gathering _)
