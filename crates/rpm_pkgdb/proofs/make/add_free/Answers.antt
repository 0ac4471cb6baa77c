use Rattle.std.proofs.Common.{◌++◌, ◌∷◌, [], replicate, List, ap, ◌∙◌, append_assoc, arith}
use Rattle.std.proofs.lemmas.List.{replicate_more}
use Rattle.rpm_pkgdb.proofs.Vocabulary.{free, Slot}
use Rattle.rpm_pkgdb.proofs.make.add_free.Goals as goal

pub loop-preserved : goal.loop-preserved
loop-preserved c =
    let k = c.loop.counter in
    let old = c.args.slots.now.items in
    record {
      items =
          c.in-Ok.ensures.items ∙ ap (λ (l : List Slot). l ++ free ∷ []) c.loop.invariant.items ∙ append_assoc old (replicate k free) (free ∷ [])
          ∙ ap (λ (l : List Slot). old ++ l) (replicate_more k free);
      len = omega (arith, c.in-Ok.ensures.len, c.loop.invariant.len);
      capacity = omega (arith, c.in-Ok.ensures.capacity, c.loop.invariant.capacity);
    }
