use Rattle.rpm_qfeval.proofs.Vocabulary.{concat}
use Rattle.rpm_qfeval.proofs.NotNumbers.{of_text}
use Rattle.rpm_qfeval.proofs.elements.put_text.Goals as goal

pub returns-in_default : goal.returns-in_default
returns-in_default g c = let e = of_text c.args.part.now.show c.args.count (concat c.args.text.now) c.in_default.not-Plain c.in_default.not-Shescape
    c.in_default.not-Base64 c.in_default.not-Arraysize in rw e c.put_plain-in_default.ensures

pub returns-in-Base64 : goal.returns-in-Base64
returns-in-Base64 g c = rw c.in-Base64.is c.put_plain.ensures
