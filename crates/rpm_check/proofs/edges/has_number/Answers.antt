use Rattle.std.proofs.Common.{sym, ap, subst, ◌∙◌}
use Rattle.rpm_check.proofs.Vocabulary.{is_in, IsNumberRising}
use Rattle.rpm_check.proofs.Joining.{found_is}
use Rattle.rpm_check.proofs.edges.has_number.Goals as goal

pub returns : goal.returns
returns c =
    let numbers = c.numbers.ensures.numbers in
    c.is_ok.ensures.value
    ∙ found_is c.numbers.result.now c.args.number c.binary_search.result (subst IsNumberRising (sym numbers) c.numbers.ensures.network.numbers)
    c.binary_search.ensures.position
    ∙ ap (is_in c.args.number) numbers
