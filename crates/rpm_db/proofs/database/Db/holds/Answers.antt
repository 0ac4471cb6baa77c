use Rattle.std.proofs.Common.{is_some, sym, ap, ◌∙◌}
use Rattle.rpm_db.proofs.Vocabulary.{Database, is_there, store_of, slot_with}
use Rattle.rpm_db.proofs.database.Db.holds.Goals as goal

pub returns-clause-held : goal.returns-clause-held
returns-clause-held c = c.holds.ensures ∙ ap (λ (db : Database). is_some (slot_with c.args.n (store_of db).slots)) c.self.view_is

pub returns-clause-told : goal.returns-clause-told
returns-clause-told c = λ file. returns-clause-held c ∙ sym (is_there file c.args.self.now c.args.n)
