use Rattle.std.proofs.Common.{is_some, subst}
use Rattle.std.specs.FinMap as finite
use Rattle.rpm_db.proofs.Vocabulary.{Database, holds, is_there, IsNext, packages, store_of}
use Rattle.rpm_db.proofs.Answers.{next_of_slots, next_is}
use Rattle.rpm_db.proofs.database.Db.next_above.Goals as goal

pub returns-clause-next : goal.returns-clause-next
returns-clause-next c =
    subst (λ (db : Database). IsNext (λ m. holds m db) c.args.n c.next_above.result) c.self.view_is
    (next_of_slots c.self.inside.store.slots c.args.n c.next_above.result c.next_above.ensures)

pub returns-clause-told : goal.returns-clause-told
returns-clause-told c = λ file.
    next_is (λ m. is_some (finite.get (packages file (store_of c.args.self.now)) m)) (λ m. holds m c.args.self.now) c.args.n c.next_above.result
    (is_there file c.args.self.now) (returns-clause-next c)
