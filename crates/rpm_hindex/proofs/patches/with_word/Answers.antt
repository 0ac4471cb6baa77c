use Rattle.std.proofs.Common.{List, ℕ, sym, subst}
use Rattle.rpm_hindex.proofs.Vocabulary.{HasWord}
use Rattle.rpm_hindex.proofs.Overlay.{has_word}
use Rattle.rpm_hindex.proofs.patches.with_word.Goals as goal

pub returns : goal.returns
returns c =
    let made = has_word c.args.words.now c.args.k c.args.n _ _ _ _ c.requires.four c.number_or.ensures c.number_or-2.ensures c.number_or-3.ensures
    c.number_or-4.ensures
    c.number_or.type_inv c.number_or-2.type_inv c.number_or-3.type_inv c.number_or-4.type_inv in
    subst (λ (w : List ℕ). HasWord c.args.words.now w c.args.k c.args.n) (sym c.unit_of_words.ensures) made
