use Rattle.std.proofs.Common.{sym, subst}
use Rattle.std.specs.Prelude.{Option}
use Rattle.std.specs.FinMap as finite
use Rattle.rpm_db.proofs.Vocabulary.{Database, get-packages, Package, packages, ReadAnswer, store_of}
use Rattle.rpm_db.proofs.Answers.{read_is}
use Rattle.rpm_db.proofs.database.Db.read_in.Goals as goal

pub returns-clause-told : goal.returns-clause-told
returns-clause-told g c = λ told.
    let file = (g.D.Disk.files c.args.disk.now).pkg in
    subst (λ (db : Database). ReadAnswer (finite.get (packages file (store_of db)) c.args.n) c.get_in.result) c.self.view_is
    (subst (λ (said : Option Package). ReadAnswer said c.get_in.result) (sym (get-packages file c.self.inside.store c.args.n))
    (read_is _ c.get_in.result (c.get_in.ensures.told told)))
