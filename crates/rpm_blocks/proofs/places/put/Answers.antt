use Rattle.std.proofs.Common.{◌≡◌, ◌≤◌, ℕ, List, [], ◌∷◌, ◌++◌, length, take, sym, ap, ◌∙◌, arith}
use Rattle.rpm_blocks.proofs.Vocabulary.{insert, Range}
use Rattle.std.proofs.lemmas.List.{take_all, drop_all}
use Rattle.rpm_blocks.proofs.places.put.Goals as goal

at_end : (ranges : List Range) (at : ℕ) (range : Range) → length ranges ≤ at → ranges ++ range ∷ [] ≡ insert ranges at range
at_end ranges at range past =
    ap (λ (l : List Range). l ++ range ∷ []) (sym (take_all at ranges past))
    ∙ ap (λ (l : List Range). take at ranges ++ range ∷ l) (sym (drop_all at ranges past))

pub returns-then-at-len-clause-items : goal.returns-then-at-len-clause-items
returns-then-at-len-clause-items c =
    c.push_reserved.ensures.items ∙ at_end c.args.ranges.now.items c.args.at c.args.range (omega (arith, c.if-at-len.true, c.len.ensures))
