use Rattle.std.specs.Prelude.{Bool}
use Rattle.rpm_check.proofs.Vocabulary.{is_met}
use Rattle.rpm_check.proofs.Keys.{known_more}
use Rattle.rpm_check.proofs.memo.Memo.put.Goals as goal

pub returns : goal.returns
returns c = λ all knows is. record {
  answers =
      known_more (λ (b : Bool). b) (is_met all) c.args.self.now.answers c.insert.new.self c.args.key c.args.met c.in_ok-insert.ensures.updates is
      knows.answers;
  sources = knows.sources;
}
