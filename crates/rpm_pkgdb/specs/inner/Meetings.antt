-- The first of some slots that shares its number or a block with an earlier one.
use Rattle.std.specs.Prelude.{◌+◌, List, [], ◌∷◌, ◌++◌, length, Option, None}
use Rattle.std.specs.Option.{option_map, option_or}
use Rattle.rpm_pkgdb.specs.declared.slot.Slot.{Slot}
use Rattle.rpm_pkgdb.specs.declared.slot.Damage.{Damage}
use Rattle.rpm_pkgdb.specs.Damages.{damage_at, shared_reason}

-- a slot after these earlier ones
abbrev pub shared_fault : List Slot → Slot → Option Damage
shared_fault earlier s = option_map (damage_at (2 + length earlier)) (shared_reason earlier s)

-- the first fault of slots after these earlier ones
abbrev pub first_shared_fault : List Slot → List Slot → Option Damage
first_shared_fault earlier [] = None
first_shared_fault earlier (s ∷ ss) = option_or (shared_fault earlier s) (first_shared_fault (earlier ++ s ∷ []) ss)
