use Rattle.std.proofs.Common.{◌≡◌, ℕ, ◌+◌, ◌-◌, ◌<◌, List, ◌++◌, replicate, sym, ap, ◌∙◌, arith}
use Rattle.rpm_qfeval.proofs.Vocabulary.{upto_last, upto_more, upto_stop}
use Rattle.rpm_qfeval.proofs.Lists.{replicate_more}
use Rattle.rpm_qfeval.proofs.pieces.put_spaces.Goals as goal

first : (left : ℕ) → 64 < left → replicate {A = ℕ} left 32 ≡ replicate {A = ℕ} 64 32 ++ replicate {A = ℕ} (left - 64) 32
first left h = let e : left ≡ 64 + (left - 64) = omega arith in ap (λ n. replicate {A = ℕ} n 32) e ∙ replicate_more 64 (left - 64) 32

pub loop-left-preserved : goal.loop-left-preserved
loop-left-preserved g c = upto_more g.met.O.Sink.follows_trans (first c.loop-left.left c.loop-left-test.true
    ∙ ap (λ (x : List ℕ). x ++ replicate {A = ℕ} (c.loop-left.left - 64) 32) (sym c.spaces.ensures)) c.loop-left.invariant c.in_ok-put_all.ensures

pub returns-in_err-put_all : goal.returns-in_err-put_all
returns-in_err-put_all g c = upto_stop g.met.O.Sink.follows_trans _ c.from_residual.result c.from_residual.ensures.0
    (first c.loop-left.left c.loop-left-test.true ∙ ap (λ (x : List ℕ). x ++ replicate {A = ℕ} (c.loop-left.left - 64) 32) (sym c.spaces.ensures))
    c.loop-left.invariant c.in_err-put_all.ensures

pub returns : goal.returns
returns g c = upto_last g.met.O.Sink.follows_trans c.loop-left.invariant (rw c.spaces-2.ensures at c.put_all-2.ensures)
