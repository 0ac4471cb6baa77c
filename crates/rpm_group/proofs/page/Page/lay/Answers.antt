use Rattle.std.proofs.Common.{◌≡◌, ◌+◌, ◌-◌, ◌*◌, ◌/◌, List, ℕ, true, length, sym, ap, ◌∙◌, arith}
use Rattle.std.proofs.lemmas.Bool.{lt-ltb}
use Rattle.std.specs.Prelude.{Option, unwrap_or}
use Rattle.rpm_group.proofs.Vocabulary.{is_marked, unit_in}
use Rattle.rpm_group.proofs.ByteLaws.{marked}
use Rattle.rpm_group.proofs.Tables.{unit_in_part}
use Rattle.rpm_group.proofs.page.Page.lay.Goals as goal

pub returns-in-None : goal.returns-in-None
returns-in-None c = λ k below.
    let page = c.args.self.now in
    let at = c.args.at in
    let n = length c.args.into.now / 16 in
    let held : is_marked page.marks (at + k) ≡ true =
    ap (λ m. is_marked m (at + k)) c.in-None.is ∙ lt-ltb (at + k) 256 (omega (arith, below, c.requires.within)) in
    ap (λ (bs : List ℕ). unit_in bs k) c.copy_from_slice.ensures.after
    ∙ unit_in_part page.bytes at n (16 * (at + n) - 16 * at) k (omega arith) below
    ∙ ap (λ (o : Option (List ℕ)). unwrap_or o (unit_in c.args.into.now k))
    (sym (marked (is_marked page.marks (at + k)) (unit_in page.bytes (at + k)) held))
