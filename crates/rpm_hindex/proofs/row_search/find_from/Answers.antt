use Rattle.std.proofs.Common.{[], refl, sym}
use Rattle.rpm_hindex.proofs.Results.{if_err}
use Rattle.rpm_hindex.proofs.row_search.find_from.Goals as goal

pub find_around-requires-clause-start : goal.find_around-requires-clause-start
find_around-requires-clause-start g c = λ told places path. c.requires.starts told places path c.in-Some.start.now (sym c.in-Some.ensures.value)

pub returns-in-None-clause-fault : goal.returns-in-None-clause-fault
returns-in-None-clause-fault g c = if_err c.find_spot.result _ _ (λ e said told places path. said told places [] path refl) c.find_spot.ensures.fault
