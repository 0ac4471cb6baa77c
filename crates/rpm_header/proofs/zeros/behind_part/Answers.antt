use Rattle.std.proofs.Common.{arith, length-drop}
use Rattle.std.proofs.lemmas.List.{take_all}
use Rattle.rpm_header.proofs.zeros.behind_part.Goals as goal

pub returns-clause-value : goal.returns-clause-value
returns-clause-value c = take_all _ _ (omega (arith, length-drop 16 c.args.bytes.now))
