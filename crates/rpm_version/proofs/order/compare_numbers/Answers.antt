use Rattle.rpm_version.proofs.Numbers.{numbers_compare}
use Rattle.rpm_version.proofs.order.compare_numbers.Goals as goal

pub returns : goal.returns
returns c =
    let a = c.without_zeros-a.ensures in
    let b = c.without_zeros-b.ensures in
    cc (numbers_compare _ _ a.digits b.digits a.no_zero b.no_zero)
