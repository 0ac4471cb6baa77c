use Rattle.std.proofs.Common.{◌≡◌, Some, sym}
use Rattle.rpm_qfeval.proofs.StoredTexts.{stored_texts}
use Rattle.rpm_qfeval.proofs.columns.texts_of.Goals.{in-Stored, in_default}
use Rattle.rpm_qfeval.proofs.columns.texts_of.Goals as goal

pub new-requires-clause-stored : goal.new-requires-clause-stored
new-requires-clause-stored c =
    let some : c.args.found.now.value ≡ Some c.in_ok-value.value.now = sym c.in_ok-value.ensures.value in
    elim c.match-found.branch [
      | in-Stored w ↦
          rw w.stored-is (stored_texts c.args.view.now c.args.number w.in-Stored.tag c.args.found.now.asked.tag c.args.found.now.value c.in_ok-value.value.now
          w.texts_in-stored.result c.requires w.in-Stored.is some w.texts_in-stored.ensures)
      | in_default w ↦ rw w.stored-is tt
    ]
