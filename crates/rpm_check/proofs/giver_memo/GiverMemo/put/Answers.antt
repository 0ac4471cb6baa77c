use Rattle.std.specs.Prelude.{ℕ, Vec}
use Rattle.rpm_check.proofs.Vocabulary.{givers, Global}
use Rattle.rpm_check.proofs.Keys.{known_more}
use Rattle.rpm_check.proofs.giver_memo.GiverMemo.put.Goals as goal

pub returns : goal.returns
returns c = λ all knows is. record {
  numbers =
      known_more (λ (numbers : Vec ℕ Global). numbers.items) (givers all) c.args.self.now.numbers c.insert.new.self c.args.key c.args.numbers
      c.in_ok-insert.ensures.updates is knows.numbers;
  sources = knows.sources;
}
