use Rattle.std.proofs.Common.{length, ap, ◌∙◌, arith}
use Rattle.std.proofs.lemmas.List.{length_push}
use Rattle.rpm_group.proofs.Vocabulary.{page_at, Table}
use Rattle.rpm_group.proofs.Tables.{leaf_pushed}
use Rattle.rpm_group.proofs.table.lengthen.Goals as goal

pub loop-k-preserved : goal.loop-k-preserved
loop-k-preserved c =
    let inv = c.loop-k.invariant in
    let old = c.loop-k.table.items in
    let is = c.in_ok-push.ensures.items in
    record {
      long = omega (arith, inv.long, ap (λ (t : Table). length t) is, length_push old c.new.result);
      same = λ q. ap (λ (t : Table). page_at t q) is ∙ leaf_pushed old c.new.result c.new.ensures.items q ∙ inv.same q;
    }
