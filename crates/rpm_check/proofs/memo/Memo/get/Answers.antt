use Rattle.std.proofs.Common.{◌≡◌, Bool, sym, ◌∙◌, subst}
use Rattle.std.specs.Prelude.{Option, IfSome}
use Rattle.rpm_check.proofs.Vocabulary.{is_met, need_of}
use Rattle.rpm_check.proofs.memo.Memo.get.Goals as goal

pub returns : goal.returns
returns c = λ all knows.
    subst (λ (o : Option Bool). IfSome o (λ known. known ≡ is_met all (need_of c.args.key.now))) (sym (c.copied.ensures ∙ c.get.ensures.value))
    (knows.answers c.args.key.now)
