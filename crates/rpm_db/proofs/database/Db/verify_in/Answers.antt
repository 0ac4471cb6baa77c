use Rattle.std.proofs.Common.{◌≡◌, Some, subst}
use Rattle.rpm_db.proofs.Vocabulary.{Database, database_of, verdict}
use Rattle.rpm_db.specs.declared.verify.Verdict.TheVariants.{BadHeader}
use Rattle.rpm_db.proofs.Answers.{broken}
use Rattle.rpm_db.proofs.database.Db.verify_in.Goals as goal

pub returns-in-Err-Bad-clause-told : goal.returns-in-Err-Bad-clause-told
returns-in-Err-Bad-clause-told g c = λ told.
    let file = (g.D.Disk.files c.args.disk.now).pkg in
    subst (λ (db : Database). verdict file db c.args.n ≡ Some BadHeader) c.self.view_is
    (broken file (database_of c.self.inside.store c.self.inside.index c.self.inside.is_stopped) c.args.n
    (rw c.in-Err-Bad.field-0-is at (c.in-Err-Bad.ensures.holds told)))
