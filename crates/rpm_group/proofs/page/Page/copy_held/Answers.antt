use Rattle.std.proofs.Common.{◌≡◌, ◌+◌, ◌-◌, ◌*◌, List, ℕ, Some, true, sym, ap, ◌∙◌, arith}
use Rattle.rpm_group.proofs.Vocabulary.{is_marked, unit_in}
use Rattle.rpm_group.proofs.ByteLaws.{marked}
use Rattle.rpm_group.proofs.Tables.{unit_in_part}
use Rattle.rpm_group.proofs.page.Page.copy_held.Goals as goal

pub returns-clause-units : goal.returns-clause-units
returns-clause-units c = λ all k below.
    let page = c.args.self.now in
    let at = c.args.at in
    let zero_more : at ≡ at + k = omega (arith, below) in
    let held : is_marked page.marks (at + k) ≡ true = sym (ap (λ (i : ℕ). is_marked page.marks i) zero_more) ∙ sym c.holds.ensures ∙ c.if-not-holds.false in
    marked (is_marked page.marks (at + k)) (unit_in page.bytes (at + k)) held
    ∙ ap Some (sym (ap (λ (bs : List ℕ). unit_in bs k) c.copy_from_slice.ensures.after
    ∙ unit_in_part page.bytes at 1 (16 * at + 16 - 16 * at) k (omega arith) (omega arith)))
