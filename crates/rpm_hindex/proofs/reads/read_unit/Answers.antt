use Rattle.std.proofs.Common.{ap, ◌∙◌}
use Rattle.std.proofs.lemmas.List.{append-nil}
use Rattle.rpm_hindex.proofs.Vocabulary.{bytes_of}
use Rattle.rpm_hindex.proofs.Runs.{take_one}
use Rattle.rpm_hindex.proofs.reads.read_unit.Goals as goal

pub returns-clause-unit : goal.returns-clause-unit
returns-clause-unit g c = λ told.
    c.in_ok-read_units.ensures.bytes told ∙ ap bytes_of (take_one (g.D.Disk.files c.args.disk.now).idx c.args.at (c.requires told)) ∙ append-nil _
