use Rattle.std.proofs.Common.{◌≡◌, Err, inl, inr, get_or, ◌∙◌, arith}
use Rattle.std.proofs.lemmas.Bool.{cases_lt}
use Rattle.std.proofs.lemmas.List.{get_or_default}
use Rattle.std.proofs.lemmas.List.Sorted.{searched}
use Rattle.rpm_graph.proofs.Orderly.{le_of_rising}
use Rattle.rpm_graph.proofs.rows.place_of.Goals as goal

pub unreachable-requires : goal.unreachable-requires
unreachable-requires c =
    let numbers = c.args.numbers.now in
    let found = searched numbers c.args.number (Err c.in-Err.field-0) c.in-Err.ensures.position (le_of_rising numbers c.requires.rises) in
    let at = c.requires.there in
    let is : get_or numbers at.0 0 ≡ c.args.number = get_or_default numbers at.0 0 c.args.number at.1 ∙ at.2 in
    elim (cases_lt at.0 c.in-Err.field-0) [
      | inl before ↦ omega (arith, found.1 at.0 before, is)
      | inr behind ↦ omega (arith, found.2 at.0 behind at.1, is)
    ]
