use Rattle.std.proofs.Common.{◌≡◌, ℕ, List, Some, refl, rules}
use Rattle.std.specs.Prelude.{slice_get, map, decimal}
use Rattle.rpm_qfeval.proofs.Vocabulary.{or_none}
use Rattle.rpm_qfeval.proofs.Plain.{get_map}
use Rattle.rpm_qfeval.proofs.ready.put_number_of.Goals as goal

in_digits : (numbers : List ℕ) (round n : ℕ) → slice_get numbers round ≡ Some n → or_none (slice_get (map decimal numbers) round) ≡ decimal n
in_digits numbers round n here = rw (get_map numbers round, here) refl

pub returns : goal.returns
returns g c = rw (in_digits c.args.numbers.now c.args.round c.number.result c.number.ensures) (search rules)
