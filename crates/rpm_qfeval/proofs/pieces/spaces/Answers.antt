use Rattle.std.proofs.lemmas.List.{take-replicate}
use Rattle.rpm_qfeval.proofs.pieces.spaces.Goals as goal

pub returns : goal.returns
returns c = take-replicate c.args.count 64 32 c.requires
