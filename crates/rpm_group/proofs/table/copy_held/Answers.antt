use Rattle.std.proofs.Common.{◌≡◌, ℕ, ◌+◌, ◌-◌, ◌*◌, ◌/◌, ◌%◌, sym, ap, ◌∙◌, arith}
use Rattle.std.specs.Prelude.{Option, List, is_some, unwrap_or}
use Rattle.rpm_group.proofs.Vocabulary.{held_at, is_held, unit_in}
use Rattle.rpm_group.proofs.table.copy_held.Goals as goal

pub returns-in-Some-clause-held : goal.returns-in-Some-clause-held
returns-in-Some-clause-held c = λ all i low high.
    let table = c.args.table.now.items in
    let unit = c.args.unit in
    let k : ℕ = i - unit in
    let place : i ≡ 256 * (unit / 256) + (unit % 256 + k) = omega (arith, low) in
    ap (λ (j : ℕ). is_held table j) place
    ∙ ap is_some (c.in-Some.ensures (unit % 256 + k) (omega (arith, c.copy_held.ensures.within all, high))
    ∙ c.copy_held.ensures.units all k (omega (arith, low, high)))

pub returns-in-Some-clause-lays : goal.returns-in-Some-clause-lays
returns-in-Some-clause-lays c = λ all k below.
    let table = c.args.table.now.items in
    let unit = c.args.unit in
    let place : unit + k ≡ 256 * (unit / 256) + (unit % 256 + k) = omega arith in
    sym (ap (λ (o : Option (List ℕ)). unwrap_or o (unit_in c.args.into.now k)) (ap (λ (j : ℕ). held_at table j) place
    ∙ c.in-Some.ensures (unit % 256 + k) (omega (arith, c.copy_held.ensures.within all, below))
    ∙ c.copy_held.ensures.units all k below))
