use Rattle.std.proofs.Common.{◌≡◌, ℕ, ◌*◌, ◌/◌, length, take, drop, ap, ◌∙◌, arith}
use Rattle.std.proofs.lemmas.List.{take_at}
use Rattle.rpm_pkgdb.proofs.Vocabulary.{bytes_of, units_of}
use Rattle.rpm_pkgdb.proofs.blob.read_into.Goals as goal

pub returns-clause-long : goal.returns-clause-long
returns-clause-long g c =
    let into = c.read_units.new.into in
    let long : length into ≡ 16 * c.args.count = omega (arith, c.read_units.auto.into, c.deref_mut.ensures.len, c.in_ok-resize.ensures.len) in
    ap length (take_at into (drop (length into) c.resize.new.self.items) c.resize.new.self.len (omega (arith, long, c.in_ok-resize.ensures.len))) ∙ long

pub returns-clause-units : goal.returns-clause-units
returns-clause-units g c = λ told.
    let into = c.read_units.new.into in
    let file = (g.D.Disk.files c.args.disk.now).pkg in
    let long : length into ≡ 16 * c.args.count = omega (arith, c.read_units.auto.into, c.deref_mut.ensures.len, c.in_ok-resize.ensures.len) in
    let count : length c.deref_mut.result.now / 16 ≡ c.args.count = omega (arith, long, c.read_units.auto.into) in
    ap units_of (take_at into (drop (length into) c.resize.new.self.items) c.resize.new.self.len (omega (arith, long, c.in_ok-resize.ensures.len)))
    ∙ (c.in_ok-read_units.ensures.units told ∙ ap (λ (k : ℕ). take k (drop c.args.at file)) count)

pub returns-clause-bytes : goal.returns-clause-bytes
returns-clause-bytes g c = λ told.
    let into = c.read_units.new.into in
    let file = (g.D.Disk.files c.args.disk.now).pkg in
    let long : length into ≡ 16 * c.args.count = omega (arith, c.read_units.auto.into, c.deref_mut.ensures.len, c.in_ok-resize.ensures.len) in
    let count : length c.deref_mut.result.now / 16 ≡ c.args.count = omega (arith, long, c.read_units.auto.into) in
    take_at into (drop (length into) c.resize.new.self.items) c.resize.new.self.len (omega (arith, long, c.in_ok-resize.ensures.len))
    ∙ (c.in_ok-read_units.ensures.bytes told ∙ ap (λ (k : ℕ). bytes_of (take k (drop c.args.at file))) count)
