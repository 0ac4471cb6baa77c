use Rattle.std.proofs.Common.{◌≡◌, ℕ, ◌-◌, ◌*◌, ◌/◌, min, length, take, drop, replicate, refl, ap, ◌∙◌, arith, rules}
use Rattle.std.proofs.lemmas.List.{length-take, length-drop}
use borrow.Rule.Slice.PartMut.{put_mid}
use Rattle.rpm_group.proofs.Vocabulary.{file_of}
use Rattle.rpm_group.proofs.ByteLaws.{length-put_mid}
use Rattle.rpm_group.proofs.Readouts.{on_ok_map, read_units}
use Rattle.rpm_group.proofs.Spares.{counts_both}
use Rattle.rpm_group.proofs.over.read_below.Goals as goal

pub returns-clause-units : goal.returns-clause-units
returns-clause-units g c =
    let file = file_of c.args.file (g.D.Disk.files c.args.below.now) in
    let into = c.args.into.now in
    let n = length into / 16 in
    let t = c.min-there.result in
    let there : t ≡ min (c.args.end - c.args.unit) n = c.min-there.ensures ∙ ap (λ (m : ℕ). min m n) c.saturating_sub.ensures in
    let whole : length into ≡ 16 * n = omega (arith, c.requires.whole) in
    let zeros : c.fill.new.self ≡ replicate (length into - 16 * t) 0 = c.fill.ensures.after (λ y clone. search rules)
    ∙ ap (λ (m : ℕ). replicate m 0) (omega (arith, length-take (length into - 16 * t) (drop (16 * t) into), length-drop (16 * t) into)) in
    let zeros_long : length c.fill.new.self ≡ length into - 16 * t =
    omega (arith, c.fill.ensures.len, length-take (length into - 16 * t) (drop (16 * t) into), length-drop (16 * t) into) in
    let mid = put_mid (16 * t) (length into - 16 * t) into c.fill.new.self in
    let part : length (take (16 * t) mid) ≡ 16 * t =
    omega (
      arith,
      length-take (16 * t) mid,
      length-put_mid (16 * t) (length into - 16 * t) into c.fill.new.self zeros_long
          (omega (arith, there)),
    ) in
    let front_long : length c.read_some.new.into ≡ 16 * t = c.read_some.auto.into ∙ part in
    on_ok_map c.read_some.result c.read_some.ensures.units
    (λ read told. read_units file c.args.unit t n (16 * t) (length into - 16 * t) into c.read_some.new.into c.fill.new.self
    (there ∙ ap (λ (l : ℕ). min (l - c.args.unit) n) (c.requires.end told)) whole refl (ap (λ (l : ℕ). l - 16 * t) whole) zeros
    front_long (read told ∙ ap (λ (k : ℕ). take k (drop c.args.unit file)) (omega (arith, part))))

pub returns-clause-counts : goal.returns-clause-counts
returns-clause-counts g c =
    let into = c.args.into.now in
    let t = c.min-there.result in
    let mid = put_mid (16 * t) (length into - 16 * t) into c.fill.new.self in
    let tail : length (drop (16 * t) into) ≡ length into - 16 * t = length-drop (16 * t) into in
    let zeros_long : length c.fill.new.self ≡ length into - 16 * t =
    omega (arith, c.fill.ensures.len, length-take (length into - 16 * t) (drop (16 * t) into), tail) in
    let part : length (take (16 * t) mid) ≡ 16 * t =
    omega (
      arith,
      length-take (16 * t) mid,
      length-put_mid (16 * t) (length into - 16 * t) into c.fill.new.self zeros_long
          (omega (arith, c.min-there.ensures)),
    ) in
    counts_both g.D.Disk c.args.file (length (take (16 * t) mid)) (length into - 16 * t) (length into) c.args.below.now c.read_some.new.below
    c.args.spared.now c.add.new.self (omega (arith, part, c.min-there.ensures)) c.read_some.ensures.counts c.add.ensures
