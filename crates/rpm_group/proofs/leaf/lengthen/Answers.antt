use Rattle.std.proofs.Common.{List, Option, None, length, get_or, ap, ◌∙◌, arith}
use Rattle.std.specs.Prelude.{Box}
use Rattle.rpm_group.proofs.Vocabulary.{Global, Page}
use Rattle.std.proofs.lemmas.List.{length_push}
use Rattle.rpm_group.proofs.Tables.{push_default}
use Rattle.rpm_group.proofs.leaf.lengthen.Goals as goal

pub loop-k-preserved : goal.loop-k-preserved
loop-k-preserved c =
    let inv = c.loop-k.invariant in
    let old = c.loop-k.leaf.items in
    let is = c.in_ok-push.ensures.items in
    record {
      long = omega (arith, inv.long, ap (λ (l : List (Option (Box Page Global))). length l) is, length_push old None);
      same = λ k. ap (λ (l : List (Option (Box Page Global))). get_or l k None) is ∙ push_default old None k ∙ inv.same k;
    }
