use Rattle.std.proofs.Common.{rules, tests, not, ap}
use Rattle.std.proofs.lemmas.Iterator.{YieldsList-from_slice}
use Rattle.std.proofs.lemmas.Iterator.Search.{any_from_yields_List}
use Rattle.rpm_pkgdb.proofs.Vocabulary.{is_nonzero}
use Rattle.rpm_pkgdb.proofs.store.is_zeros.Goals as goal

pub returns : goal.returns
returns c =
    ap not (any_from_yields_List is_nonzero _ _ c.any.result c.any.ensures.ran (YieldsList-from_slice c.args.unit.now cc)
    (λ x b q k. search (rules, tests)))
