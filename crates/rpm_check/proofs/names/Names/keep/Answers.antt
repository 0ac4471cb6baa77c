use Rattle.std.proofs.Common.{sym, subst}
use Rattle.rpm_check.specs.inner.Offers.{KnowsNames}
use Rattle.rpm_check.proofs.Naming.{IsKept, more_kept}
use Rattle.rpm_check.proofs.Vocabulary.{AllByRecursion, IsOffered}
use Rattle.rpm_check.proofs.names.Names.keep.Goals as goal

pub returns : goal.returns
unfolding KnowsNames
returns c = λ all knows offered.
    subst (AllByRecursion (IsKept all)) (sym c.in_ok-insert.ensures.entries)
    (more_kept all c.in_ok-name.name c.args.offers (subst (λ ns. IsOffered all ns c.args.offers.items) (sym c.in_ok-name.ensures.items) offered)
    c.args.self.now.kept.entries knows)
