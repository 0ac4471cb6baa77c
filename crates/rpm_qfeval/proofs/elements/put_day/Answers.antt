use Rattle.std.proofs.Common.{◌≡◌, nat_lt, true, arith}
use Rattle.std.proofs.lemmas.Bool.{lt-ltb}
use Rattle.rpm_qfeval.proofs.elements.put_day.Goals as goal

pub returns-in-Err : goal.returns-in-Err
returns-in-Err g c =
    let past = c.in-Err.ensures in
    let large : nat_lt 4294967295 c.args.number ≡ true = lt-ltb 4294967295 c.args.number (omega (arith, past)) in
    rw large c.put_plain-in-Err.ensures
