use Rattle.std.proofs.Common.{◌≡◌, ◌*◌, ◌/◌, length, sym, ap, ◌∙◌, arith}
use Rattle.rpm_hindex.proofs.Vocabulary.{bytes_of, bytes_of-cut_up}
use Rattle.rpm_hindex.proofs.reads.read_units.Goals as goal

pub returns-clause-bytes : goal.returns-clause-bytes
returns-clause-bytes g c = λ told.
    let into = c.read_at.new.into in
    let whole : length into ≡ 16 * (length into / 16) = omega (arith, c.read_at.auto.into, c.requires.whole) in
    sym (bytes_of-cut_up (length into / 16) into whole) ∙ ap bytes_of (c.in_ok-read_at.ensures.units told)
