use Rattle.std.proofs.Common.{◌≡◌, ◌+◌, ◌-◌, ℕ, length, drop, min, ap, ◌∙◌, arith}
use Rattle.std.proofs.lemmas.List.{drop-drop, drop_min}
use Rattle.rpm_header.proofs.Vocabulary.{zeros}
use Rattle.rpm_header.proofs.Counted.{zeros-parts}
use Rattle.rpm_header.proofs.zeros.between.Goals as goal

pub returns-clause-counted : goal.returns-clause-counted
returns-clause-counted c =
    let bytes = c.args.bytes.now in
    let end : c.args.from + (c.min.result - c.args.from) ≡ min c.args.to (length bytes) = omega (arith, c.min.ensures) in
    let behind = drop-drop (c.min.result - c.args.from) c.args.from bytes ∙ ap (λ (n : ℕ). drop n bytes) end ∙ drop_min c.args.to bytes in
    omega (arith, zeros-parts (c.min.result - c.args.from) (drop c.args.from bytes), ap zeros behind)
