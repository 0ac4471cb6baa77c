use Rattle.std.proofs.Common.{◌≡◌, ℕ, ◌/◌, ◌+◌, ◌-◌, ◌*◌, take, drop, ap, length, sym, arith, ◌∙◌}
use Rattle.rpm_pkgdb.proofs.Vocabulary.{unit_at-cut_up}
use Rattle.rpm_pkgdb.proofs.units.unit_in.Goals as goal

pub returns-clause-unit : goal.returns-clause-unit
returns-clause-unit c =
    let k = c.args.k in
    let bytes = c.args.bytes.now in
    let w : (16 * k + 16) - 16 * k ≡ 16 = omega arith in
    ap (λ (n : ℕ). take n (drop (16 * k) bytes)) w ∙ sym (unit_at-cut_up (length bytes / 16) bytes k c.requires)
