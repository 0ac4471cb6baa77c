-- The senses of a range by name, how two ranges meet, and the number of an epoch.
use Rattle.std.specs.Prelude.{ℕ, List, [], Bool, ◌||◌, Option, unwrap_or}
use Rattle.std.specs.declared.cmp.Ordering.{Ordering}
use Rattle.std.specs.declared.cmp.Ordering.TheVariants.{Less, Equal, Greater}
use Rattle.std.specs.Str.Parse.{digits_value}
use Rattle.rpm_version.specs.Evr.{EvrParts}
use Rattle.rpm_version.specs.Range.{has_sense, share_sense, equal_but_release}
use Rattle.rpm_version.specs.declared.range.TheConstants.{LESS, GREATER, EQUAL}

-- the bit of less is set
abbrev pub has_less : ℕ → Bool
has_less flags = has_sense flags LESS

-- the bit of greater is set
abbrev pub has_greater : ℕ → Bool
has_greater flags = has_sense flags GREATER

-- the bit of equal is set
abbrev pub has_equal : ℕ → Bool
has_equal flags = has_sense flags EQUAL

-- two ranges meet according to how the version of A stands to that of B: below, above, or equal
abbrev pub ranges_meet : Ordering → ℕ → EvrParts → ℕ → EvrParts → Bool
ranges_meet order fa a fb b = elim order [
  | Less ↦ has_greater fa || has_less fb
  | Greater ↦ has_less fa || has_greater fb
  | Equal ↦ share_sense fa fb || equal_but_release fa a.release fb b.release
]

-- the number of an epoch: 0 where it is missing or empty
abbrev pub epoch_number : Option (List ℕ) → ℕ
epoch_number epoch = digits_value 10 (unwrap_or epoch [])
