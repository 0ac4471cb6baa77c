use Rattle.std.proofs.Common.{◌≡◌, ℕ}
use Rattle.std.specs.Prelude.{Vec}
use Rattle.rpm_check.proofs.Vocabulary.{givers, Global, need_of}
use Rattle.rpm_check.proofs.Keys.{from_copied}
use Rattle.rpm_check.proofs.giver_memo.GiverMemo.get.Goals as goal

pub returns : goal.returns
returns c = λ all knows.
    from_copied (λ (numbers : Vec ℕ Global). numbers.items ≡ givers all (need_of c.args.key.now)) c.get.result _ c.get.ensures.value
    (knows.numbers c.args.key.now)
