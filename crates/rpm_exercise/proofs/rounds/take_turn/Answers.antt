use Rattle.std.proofs.Common.{◌≡◌, true, false, arith}
use Rattle.std.specs.Prelude.{◌==◌, ◌%◌}
use Rattle.std.proofs.lemmas.Bool.Decides.{nat_tests}
use Rattle.rpm_exercise.proofs.Vocabulary.{err_is}
use Rattle.rpm_exercise.proofs.Through.{memory_through, none_through, one_through}
use Rattle.rpm_exercise.proofs.rounds.take_turn.Goals as goal

pub returns-in-Adding-clause-went : goal.returns-in-Adding-clause-went
returns-in-Adding-clause-went g c = rw c.in-Adding.is c.put_one.ensures.went

pub returns-then-i-ne0-clause-went : goal.returns-then-i-ne0-clause-went
returns-then-i-ne0-clause-went g c =
    let other : (c.args.i % 3 == 0) ≡ false = grind (arith, nat_tests) in
    rw (c.in-Replacing.is, other) (none_through g.D.Disk g.met.D.Disk.follows_refl c.args.disk.now c.args.db.now c.requires.gathering)

pub returns-then-i-ne0-2-clause-went : goal.returns-then-i-ne0-2-clause-went
returns-then-i-ne0-2-clause-went g c =
    let other : (c.args.i % 5 == 0) ≡ false = grind (arith, nat_tests) in
    rw (c.in-Erasing.is, other) (none_through g.D.Disk g.met.D.Disk.follows_refl c.args.disk.now c.args.db.now c.requires.gathering)

pub returns-in_ok-number-in-Replacing-clause-went : goal.returns-in_ok-number-in-Replacing-clause-went
returns-in_ok-number-in-Replacing-clause-went g c =
    let third : (c.args.i % 3 == 0) ≡ true = grind (arith, nat_tests) in
    rw (c.in-Replacing.is, third, ← c.in_ok-number-in-Replacing.ensures.value) c.put_one-in-Replacing.ensures.went

pub returns-in_ok-number-in-Erasing-clause-went : goal.returns-in_ok-number-in-Erasing-clause-went
returns-in_ok-number-in-Erasing-clause-went g c =
    let fifth : (c.args.i % 5 == 0) ≡ true = grind (arith, nat_tests) in
    rw (c.in-Erasing.is, fifth, ← c.in_ok-number-in-Erasing.ensures.value) (one_through g.D.Disk c.take_within.ensures)

pub returns-in_err-number-in-Replacing-clause-went : goal.returns-in_err-number-in-Replacing-clause-went
returns-in_err-number-in-Replacing-clause-went g c =
    rw (err_is c.from_residual.result c.from_residual.ensures, c.in_err-number-in-Replacing.ensures.kinds)
    (memory_through g.D.Disk g.met.D.Disk.follows_refl c.args.disk.now c.args.db.now c.requires.gathering _)

pub returns-in_err-number-in-Erasing-clause-went : goal.returns-in_err-number-in-Erasing-clause-went
returns-in_err-number-in-Erasing-clause-went g c =
    rw (err_is c.from_residual-in_err-number-in-Erasing.result c.from_residual-in_err-number-in-Erasing.ensures, c.in_err-number-in-Erasing.ensures.kinds)
    (memory_through g.D.Disk g.met.D.Disk.follows_refl c.args.disk.now c.args.db.now c.requires.gathering _)
