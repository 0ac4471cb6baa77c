use Rattle.std.proofs.Common.{◌≡◌, true, sym, ap, ◌∙◌, subst}
use Rattle.rpm_db.proofs.Vocabulary.{Database, holds}
use Rattle.rpm_db.proofs.Refused.{erase_of}
use Rattle.rpm_db.proofs.database.Db.erase.Goals as goal

pub returns-clause-causes : goal.returns-clause-causes
returns-clause-causes g c =
    erase_of c.args.self.now c.args.n c.change.result (ap (λ (d : Database). d.stopped) (sym c.self.view_is) ∙ c.if-self.false)
    (subst (λ (d : Database). holds c.args.n d ≡ true) c.self.view_is (sym c.holds.ensures ∙ c.if-not-holds.false)) c.change.ensures.later
