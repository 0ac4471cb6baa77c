use Rattle.std.proofs.Common.{map, drop}
use Rattle.rpm_effects.proofs.Vocabulary.{concat, Upto}
use Rattle.rpm_effects.proofs.pieces.put_pieces.Given as goal

abbrev pub invariant-loop-piece : goal.invariant-loop-piece
invariant-loop-piece g l =
    Upto g.S.Sink (concat (map (λ piece. piece.now) l.pieces))
    (concat (map (λ piece. piece.now) (drop l.piece-index l.pieces))) l.initial.sink l.sink
