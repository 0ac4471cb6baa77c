use Rattle.std.proofs.Common.{◌≡◌, ◌+◌, ◌-◌, ◌*◌, ◌/◌, List, ℕ, true, false, length, get_or, sym, ap, ◌∙◌, arith}
use Rattle.std.specs.Prelude.{Option, unwrap_or}
use Rattle.rpm_group.proofs.Vocabulary.{unit_in}
use Rattle.rpm_group.proofs.ByteLaws.{marked}
use Rattle.rpm_group.proofs.Marks.{none_so}
use Rattle.rpm_group.proofs.Tables.{unit_in_part}
use Rattle.rpm_group.proofs.page.lay_marked.Goals as goal

pub returns : goal.returns
returns c = λ k below.
    let marks = c.args.marks.now in
    let bytes = c.args.bytes.now in
    let at = c.args.at in
    let n = length c.args.into.now / 16 in
    let held : get_or marks (at + k) false ≡ true =
    none_so marks false at (at + n - at) (omega (arith, c.requires.marks, c.requires.within)) c.if-contains.ensures.cases k (omega (arith, below)) in
    ap (λ (bs : List ℕ). unit_in bs k) c.copy_from_slice.ensures.after
    ∙ unit_in_part bytes at n (16 * (at + n) - 16 * at) k (omega arith) below
    ∙ ap (λ (o : Option (List ℕ)). unwrap_or o (unit_in c.args.into.now k))
    (sym (marked (get_or marks (at + k) false) (unit_in bytes (at + k)) held))
