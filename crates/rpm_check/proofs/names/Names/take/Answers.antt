use Rattle.std.proofs.Common.{sym, subst}
use Rattle.rpm_check.specs.inner.Offers.{KnowsNames}
use Rattle.rpm_check.proofs.Naming.{found_under, IsKept, left_kept}
use Rattle.rpm_check.proofs.Vocabulary.{AllByRecursion, AreOffered}
use Rattle.rpm_check.proofs.names.Names.take.Goals as goal

pub returns-clause-taken : goal.returns-clause-taken
unfolding KnowsNames
returns-clause-taken c = λ all knows.
    subst (AreOffered all c.args.name.now) (sym c.remove.ensures.value) (found_under all c.args.name.now c.args.self.now.kept.entries knows)

pub returns-clause-rest : goal.returns-clause-rest
unfolding KnowsNames
returns-clause-rest c = λ all knows.
    subst (AllByRecursion (IsKept all)) (sym c.remove.ensures.entries) (left_kept all _ c.args.self.now.kept.entries knows)
