use Rattle.std.proofs.Common.{sym, ◌∙◌}
use Rattle.rpm_version.proofs.Words.{words-none, words-first}
use Rattle.rpm_version.proofs.capability.next_word.Goals as goal

pub returns-then-is_empty : goal.returns-then-is_empty
returns-then-is_empty c = words-none _ _ c.without_blanks-text.ensures (sym c.is_empty.ensures ∙ c.if-is_empty.true)

pub returns-else-is_empty : goal.returns-else-is_empty
returns-else-is_empty c =
    let cut = c.split_at.ensures in
    words-first _ _ c.without_blanks-text.ensures _ _ _ (sym c.is_empty.ensures ∙ c.if-is_empty.false) c.word_len.ensures.length cut.front cut.back
