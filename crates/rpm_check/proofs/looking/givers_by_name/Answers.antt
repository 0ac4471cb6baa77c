use Rattle.rpm_check.proofs.Vocabulary.{needed_in, packages, store_of}
use Rattle.rpm_check.proofs.Offering.{givers_kept}
use Rattle.rpm_check.proofs.looking.givers_by_name.Goals as goal

pub returns-in_ok-keep-in-Some-clause-told : goal.returns-in_ok-keep-in-Some-clause-told
returns-in_ok-keep-in-Some-clause-told g c = λ told has knows.
    let all = packages (g.D.Disk.files c.args.disk.now).pkg (store_of c.args.db.now) in
    let found = rw c.in-Some.is at c.in_ok-offers.ensures in
    let numbers = c.in_ok-numbers-in-Some.ensures in
    givers_kept all (needed_in c.args.needed.now) (found.told told has knows.names) found.plain c.deref.ensures.value
    _ numbers.rising numbers.same

pub returns-in_err-keep-in-Some-clause-knows : goal.returns-in_err-keep-in-Some-clause-knows
returns-in_err-keep-in-Some-clause-knows g c = λ told has knows.
    let found = rw c.in-Some.is at c.in_ok-offers.ensures in
    record { names = c.keep.ensures _ (found.knows told has knows.names) (found.told told has knows.names); recent = knows.recent }

pub returns-in_ok-keep-in-Some-clause-knows : goal.returns-in_ok-keep-in-Some-clause-knows
returns-in_ok-keep-in-Some-clause-knows g c = λ told has knows.
    let found = rw c.in-Some.is at c.in_ok-offers.ensures in
    record { names = c.keep.ensures _ (found.knows told has knows.names) (found.told told has knows.names); recent = knows.recent }
