use Rattle.std.proofs.Common.{List, ℕ, [], Bor}
use Rattle.rpm_effects.proofs.Vocabulary.{upto_more, upto_stop}
use Rattle.rpm_effects.proofs.Joins.{concat_at}
use Rattle.rpm_effects.proofs.pieces.put_pieces.Goals as goal

abbrev bytes : Bor (List ℕ) → List ℕ
bytes piece = piece.now

abbrev nothing : Bor (List ℕ)
nothing = record { ref_ptr = (0, 0); now = [] }

pub returns-in_err-put_all : goal.returns-in_err-put_all
returns-in_err-put_all g c =
    upto_stop g.met.S.Sink.follows_trans _ c.from_residual.result c.from_residual.ensures.0
    (concat_at bytes c.args.pieces.now c.loop-piece.piece-index nothing c.loop-piece-test.true) c.loop-piece.invariant c.in_err-put_all.ensures

pub loop-piece-preserved : goal.loop-piece-preserved
loop-piece-preserved g c =
    upto_more g.met.S.Sink.follows_trans (concat_at bytes c.args.pieces.now c.loop-piece.piece-index nothing c.loop-piece-test.true)
    c.loop-piece.invariant c.in_ok-put_all.ensures
