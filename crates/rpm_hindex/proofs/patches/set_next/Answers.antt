use Rattle.std.proofs.Common.{ap, ◌∙◌, arith}
use Rattle.rpm_hindex.proofs.Vocabulary.{word, word_0, word_1, word_2, word_3}
use Rattle.rpm_hindex.proofs.Overlay.{sets_next}
use Rattle.rpm_hindex.proofs.Results.{on_ok}
use Rattle.rpm_hindex.proofs.patches.set_next.Goals as goal

pub returns-clause-sets : goal.returns-clause-sets
returns-clause-sets c =
    let head = c.args.head in
    let next = c.args.next in
    let made = c.unit_of_words-unit.ensures in
    on_ok _ _ _ (sets_next _ _ head next c.unit_of_words-unit.result
    (ap (word 0) made ∙ word_0 next head.size head.number head.place (omega arith))
    (ap (word 1) made ∙ word_1 next head.size head.number head.place (omega arith))
    (ap (word 2) made ∙ word_2 next head.size head.number head.place (omega arith))
    (ap (word 3) made ∙ word_3 next head.size head.number head.place (omega arith))) c.put_unit.ensures.put
