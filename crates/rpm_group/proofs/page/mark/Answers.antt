use Rattle.std.proofs.Common.{inl, inr, ⊎_elim, arith}
use Rattle.rpm_group.proofs.page.mark.Goals as goal

pub returns-clause-outside : goal.returns-clause-outside
returns-clause-outside c = λ k out. c.loop-k.invariant.outside k (⊎_elim (λ before. inl before) (λ past. inr (omega arith)) out)
