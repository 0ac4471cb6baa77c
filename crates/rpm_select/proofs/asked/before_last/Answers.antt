use Rattle.rpm_select.proofs.Vocabulary.{is_byte}
use Rattle.rpm_select.proofs.Cutting.{cut_there, cut_none}
use Rattle.rpm_select.proofs.asked.before_last.Goals as goal

pub returns-then-behind-text : goal.returns-then-behind-text
returns-then-behind-text c = cut_there (is_byte c.args.byte) c.args.text.now c.behind_len-behind.result c.behind_len-behind.ensures.value c.if-behind-text.true

pub returns-else-behind-text : goal.returns-else-behind-text
returns-else-behind-text c = cut_none (is_byte c.args.byte) c.args.text.now c.behind_len-behind.result c.behind_len-behind.ensures.value c.if-behind-text.false
