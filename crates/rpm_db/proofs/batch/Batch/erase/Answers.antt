use Rattle.std.proofs.Common.{◌≡◌, [], true, refl, sym, ◌∙◌, subst}
use Rattle.std.specs.Prelude.{IsSome}
use Rattle.rpm_db.proofs.Vocabulary.{Database, holds, resumed_database, slot_with, store_of}
use Rattle.rpm_db.proofs.Refused.{erase_of, erase_refused, never_aside}
use Rattle.rpm_db.proofs.batch.Batch.erase.Goals as goal

pub change-requires-clause-takes : goal.change-requires-clause-takes
change-requires-clause-takes g c = record {
  held = subst (λ (d : Database). IsSome (slot_with c.args.n (store_of d).slots)) c.db.view_is (sym c.holds.ensures ∙ c.if-holds.true);
  left = λ none. absurd cc;
}

pub returns-then-holds-clause-causes : goal.returns-then-holds-clause-causes
returns-then-holds-clause-causes g c =
    erase_of (resumed_database c.args.db.now) c.args.n c.change.result refl
    (subst (λ (d : Database). holds c.args.n d ≡ true) c.db.view_is (sym c.holds.ensures ∙ c.if-holds.true)) c.change.ensures.later

pub returns-then-holds-clause-refused : goal.returns-then-holds-clause-refused
returns-then-holds-clause-refused g c = λ which. c.change.ensures.spent (erase_refused _ c.change.result c.change.ensures.later which)

pub returns-then-holds-clause-left : goal.returns-then-holds-clause-left
returns-then-holds-clause-left g c =
    let l = c.change.ensures.left in
    record {
      indexed = l.indexed;
      stopped = l.stopped;
      refused = l.refused;
      same = l.same;
      moment = l.moment;
      bad = λ told. never_aside [] (g.D.Disk.files c.args.disk.now).idx c.change.result c.change.ensures.aside;
    }
