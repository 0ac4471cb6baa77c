use Rattle.rpm_qfeval.proofs.NotNumbers.{of_blob}
use Rattle.rpm_qfeval.proofs.elements.put_blob.Goals as goal

pub returns-in_default : goal.returns-in_default
returns-in_default g c = let e = of_blob c.args.part.now.show c.args.bytes.now c.in_default.not-Plain c.in_default.not-Shescape
    c.in_default.not-Base64 c.in_default.not-Arraysize in rw e c.put_plain-in_default.ensures
