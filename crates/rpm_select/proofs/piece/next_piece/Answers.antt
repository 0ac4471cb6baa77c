use Rattle.std.proofs.Common.{ℕ, ◌<◌, List, ◌∷◌, length, get_or, ap, sym, ◌∙◌, arith}
use Rattle.std.proofs.lemmas.Bool.Decides.{nat_tests}
use Rattle.rpm_select.proofs.Vocabulary.{piece_at, pieces, written_in}
use Rattle.rpm_select.proofs.Pieces.{none_cut, one_cut}
use Rattle.rpm_select.proofs.Members.{rest_is}
use Rattle.rpm_select.proofs.piece.next_piece.Goals as goal

pub returns-then-is_empty-clause-value : goal.returns-then-is_empty-clause-value
returns-then-is_empty-clause-value c = let h = c.if-is_empty.ensures in none_cut c.args.glob.now (grind (arith, nat_tests))

pub returns-clause-value : goal.returns-clause-value
returns-clause-value c =
    let h = c.if-is_empty.ensures in
    let some : 0 < length c.args.glob.now = grind (arith, nat_tests) in
    let w = written_in c.piece_at-first.result in
    one_cut c.args.glob.now w 0 some (c.piece_at-first.ensures.value
    ∙ ap (piece_at (get_or c.args.glob.now 0 0)) (rest_is 1 c.args.glob.now)) c.piece_at-first.ensures.some
    ∙ ap (λ (rest : List ℕ). w.0 ∷ pieces rest) (sym (rest_is c.piece_at-first.result.size c.args.glob.now))
