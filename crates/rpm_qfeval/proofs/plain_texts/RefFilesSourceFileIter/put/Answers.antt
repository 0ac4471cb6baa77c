use Rattle.std.proofs.Common.{refl}
use Rattle.rpm_qfeval.proofs.Vocabulary.{both}
use Rattle.rpm_qfeval.proofs.plain_texts.RefFilesSourceFileIter.put.Goals as goal

pub returns : goal.returns
returns g c = both g.met.O.Sink.follows_trans g.met.O.Sink.follows_refl refl c.in_ok-put_all.ensures c.put_all-2.ensures
