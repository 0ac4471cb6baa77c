use Rattle.std.proofs.Common.{sym, arith}
use Rattle.std.proofs.lemmas.List.{get_or_past}
use Rattle.rpm_hindex.proofs.Vocabulary.{blank}
use Rattle.rpm_hindex.proofs.reads.unit_or_zeros.Goals as goal

pub returns-then-at-units-clause-unit : goal.returns-then-at-units-clause-unit
unfolding blank
returns-then-at-units-clause-unit g c = λ told. sym (get_or_past (g.D.Disk.files c.args.disk.now).idx c.args.at blank (omega (arith, c.requires told)))
