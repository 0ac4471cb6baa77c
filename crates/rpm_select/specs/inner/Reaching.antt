-- What a picker's reach shows.
use Rattle.std.specs.Prelude.{[], ◌∷◌}
use Rattle.std.specs.List.Sorted.{IsStrictlyIncreasing}
use Rattle.rpm_select.specs.declared.reach.Reach as declared
use Rattle.rpm_select.specs.declared.reach.Reach.TheVariants as code
use Rattle.rpm_select.specs.Reach.{Reach, Everything, These}

-- the numbers that a reach of the code stands for
abbrev pub reach_of : declared.Reach → Reach
reach_of code.All = Everything
reach_of (code.One n) = These (n ∷ [])
reach_of (code.These numbers) = These numbers.items

-- the numbers that an index gave rise
abbrev pub AreNumbersRising : declared.Reach → Type 0
AreNumbersRising code.All = Unit {0}
AreNumbersRising (code.One n) = Unit {0}
AreNumbersRising (code.These numbers) = IsStrictlyIncreasing numbers.items
