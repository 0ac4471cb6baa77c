use Rattle.std.proofs.Common.{◌∙◌}
use Rattle.rpm_print.proofs.Vocabulary.{closing}
use Rattle.rpm_print.proofs.closing.put_damage.Goals as goal

pub returns : goal.returns
unfolding closing
returns g c =
    let offset = c.as_bytes-offset.ensures.value ∙ c.format.ensures.text in
    rw (← offset, ← c.reason_text-reason.ensures) c.put_pieces.ensures
