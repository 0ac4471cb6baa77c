use Rattle.std.proofs.Common.{sym, ap, ◌∙◌, ◌==◌}
use Rattle.std.proofs.lemmas.List.Filters.{dedup_is}
use Rattle.std.proofs.lemmas.List.Sorted.{list_any-IsPermutation}
use Rattle.std.proofs.lemmas.Map.Keys.{IsStrictlyIncreasing-dedup}
use Rattle.rpm_select.proofs.Vocabulary.{is_in}
use Rattle.rpm_select.proofs.Searching.{dedup_in}
use Rattle.rpm_select.proofs.asking.each_once.Goals as goal

pub returns-clause-rising : goal.returns-clause-rising
returns-clause-rising c = rw (dedup_is _ _ _ c.dedup.ensures.filtered) (IsStrictlyIncreasing-dedup _ c.sort_unstable.ensures.sorted)

pub returns-clause-same : goal.returns-clause-same
returns-clause-same c n =
    ap (is_in n) (dedup_is _ _ _ c.dedup.ensures.filtered) ∙ dedup_in n _
    ∙ sym (list_any-IsPermutation (λ m. m == n) _ _ c.sort_unstable.ensures.permutation)
