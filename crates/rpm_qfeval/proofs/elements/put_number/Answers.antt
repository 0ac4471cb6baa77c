use Rattle.rpm_qfeval.proofs.elements.put_number.Goals as goal

pub returns-in-Base64 : goal.returns-in-Base64
returns-in-Base64 g c = rw c.in-Base64.is c.put_plain-in-Base64.ensures
