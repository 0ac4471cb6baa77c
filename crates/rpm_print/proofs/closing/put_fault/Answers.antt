use Rattle.std.proofs.Common.{◌∙◌}
use Rattle.rpm_print.proofs.Vocabulary.{closing}
use Rattle.rpm_print.proofs.closing.put_fault.Goals as goal

pub returns : goal.returns
unfolding closing
returns g c =
    let at = c.as_bytes-at.ensures.value ∙ c.format.ensures.text in
    rw (← at, ← c.fault_text-text.ensures) c.put_pieces.ensures
