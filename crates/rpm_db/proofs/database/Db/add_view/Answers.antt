use Rattle.std.proofs.Common.{inl, inr}
use Rattle.rpm_db.proofs.Results.{err_as}
use Rattle.rpm_db.proofs.database.Db.add_view.Goals as goal

pub returns-in-Ok-clause-makes : goal.returns-in-Ok-clause-makes
returns-in-Ok-clause-makes g c =
    let m = c.in-Ok.ensures.makes in
    record { room = m.room; changed = m.changed; full = m.full; crashes = m.crashes }

pub returns-in-Ok-clause-left : goal.returns-in-Ok-clause-left
returns-in-Ok-clause-left g c =
    let l = c.in-Ok.ensures.left in
    record {
      indexed = l.indexed;
      not_blank = l.not_blank;
      generation = l.generation;
      index = l.index;
      whole = l.whole;
      serving = λ other. l.serving (λ is. absurd cc);
      refused = tt;
      same = tt;
      moment = tt;
      stopped = (λ on. elim (l.stopped.0 on) [ inl was ↦ inl was | inr is ↦ absurd cc ], λ at. absurd cc);
    }

pub returns-in-Err-clause-makes : goal.returns-in-Err-clause-makes
returns-in-Err-clause-makes g c =
    let m = c.in-Err.ensures.makes in
    record { room = m.room; changed = m.changed; full = m.full; crashes = m.crashes }

pub returns-in-Err-clause-left : goal.returns-in-Err-clause-left
returns-in-Err-clause-left g c =
    let l = c.in-Err.ensures.left in
    record {
      indexed = l.indexed;
      not_blank = l.not_blank;
      generation = tt;
      index = tt;
      whole = l.whole;
      serving = λ other. l.serving (λ is. other (err_as _ _ is));
      refused = l.refused;
      same = l.same;
      moment = l.moment;
      stopped = (λ on. elim (l.stopped.0 on) [ inl was ↦ inl was | inr is ↦ inr (err_as _ _ is) ], λ at. l.stopped.1 (err_as _ _ at));
    }

pub returns-in-Err-clause-bad : goal.returns-in-Err-clause-bad
returns-in-Err-clause-bad g c = λ told. c.in-Err.ensures.bad told
