use Rattle.std.proofs.Common.{◌≡◌, ◌+◌, ◌*◌, List, ℕ, Option, sym, ap, ◌∙◌, arith}
use Rattle.std.specs.Prelude.{unwrap_or}
use Rattle.rpm_group.proofs.Vocabulary.{held_at, unit_in}
use Rattle.rpm_group.proofs.table.lay_in.Goals as goal

pub returns-in-None : goal.returns-in-None
returns-in-None c = λ k below.
    let place : 256 * c.args.q + c.args.at + k ≡ 256 * c.args.q + (c.args.at + k) = omega arith in
    sym (ap (λ (o : Option (List ℕ)). unwrap_or o (unit_in c.args.into.now k)) (ap (λ (i : ℕ). held_at c.args.table.now.items i) place
    ∙ c.in-None.ensures (c.args.at + k) (omega (arith, c.requires.within, below))))
