use Rattle.std.proofs.Common.{sym, ap, ◌∙◌}
use Rattle.rpm_db.proofs.Vocabulary.{next-state, store_of}
use Rattle.rpm_db.specs.Database.{next_package_number}
use Rattle.rpm_db.proofs.database.Db.next_number.Goals as goal

pub returns-clause-told : goal.returns-clause-told
returns-clause-told c = λ file.
    c.next_number.ensures ∙ ap next_package_number c.self.view_is ∙ sym (next-state file (store_of c.args.self.now))
