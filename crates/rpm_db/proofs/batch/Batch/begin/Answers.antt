use Rattle.std.proofs.Common.{◌≡◌, is_some, false, sym, ap, ◌∙◌, subst}
use Rattle.rpm_db.proofs.Vocabulary.{Database, generation_of, has_failed, IsOrdered, sealed_in}
use Rattle.rpm_db.proofs.OwedRows.{ordered_of, sealed_of}
use Rattle.rpm_db.proofs.batch.Batch.begin.Goals as goal

pub returns-clause-goes : goal.returns-clause-goes
returns-clause-goes c =
    let going : c.db.inside.is_stopped ≡ false = ap (λ (d : Database). d.stopped) c.db.view_is ∙ c.requires.going in
    ap has_failed (sym c.db.view_is) ∙ c.db.invariant.going going

pub returns-clause-order : goal.returns-clause-order
returns-clause-order c =
    let going : c.db.inside.is_stopped ≡ false = ap (λ (d : Database). d.stopped) c.db.view_is ∙ c.requires.going in
    subst (λ (d : Database). IsOrdered d.index) c.db.view_is (ordered_of c.db.inside.store.generation c.db.inside.index (c.db.invariant.order going))

pub returns-clause-sealed : goal.returns-clause-sealed
returns-clause-sealed c =
    let going : c.db.inside.is_stopped ≡ false = ap (λ (d : Database). d.stopped) c.db.view_is ∙ c.requires.going in
    subst (λ (d : Database). sealed_in d.index ≡ generation_of d) c.db.view_is
    (sealed_of c.db.inside.store.generation c.db.inside.index (ap (λ (d : Database). is_some d.index) c.db.view_is ∙ c.requires.indexed)
    (c.db.invariant.order going))
