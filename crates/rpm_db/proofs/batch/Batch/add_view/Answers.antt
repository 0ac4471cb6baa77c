use Rattle.std.proofs.Common.{List, subst}
use Rattle.std.proofs.lemmas.List.{append-nil}
use Rattle.rpm_db.proofs.Vocabulary.{BadCause, Row}
use Rattle.rpm_db.proofs.batch.Batch.add_view.Goals as goal

pub returns-in-Ok-clause-gathers : goal.returns-in-Ok-clause-gathers
returns-in-Ok-clause-gathers g c =
    let m = c.in-Ok.ensures.gathers in
    record { room = m.room; gathered = m.gathered; full = m.full; crashes = m.crashes }

pub returns-in-Err-clause-gathers : goal.returns-in-Err-clause-gathers
returns-in-Err-clause-gathers g c =
    let m = c.in-Err.ensures.gathers in
    record { room = m.room; gathered = m.gathered; full = m.full; crashes = m.crashes }

pub returns-in-Ok-clause-left : goal.returns-in-Ok-clause-left
returns-in-Ok-clause-left g c =
    let l = c.in-Ok.ensures.left in
    record { indexed = l.indexed; stopped = tt; refused = tt; same = tt; moment = tt; bad = λ told. tt }

pub returns-in-Err-clause-left : goal.returns-in-Err-clause-left
returns-in-Err-clause-left g c =
    let l = c.in-Err.ensures.left in
    record {
      indexed = l.indexed;
      stopped = l.stopped;
      refused = l.refused;
      same = l.same;
      moment = l.moment;
      bad = λ told.
          subst (λ (rs : List Row). BadCause rs (g.D.Disk.files c.args.disk.now).idx c.in-Err.fault) (append-nil c.args.self.now.drops) (l.bad told);
    }
