-- What a change or a crash leaves: the units outside a range, and the packages' blocks, the same
-- bytes wherever they stand.
use Rattle.std.specs.Prelude.{◌≡◌, ◌≢◌, ℕ, ◌+◌, ◌<◌, ◌≤◌, ◌⊎◌, max, length, take, drop, Option, Ok}
use Rattle.std.specs.Option.{option_map}
use Rattle.rpm_outside.specs.Files.{Units, unit_at}
use Rattle.rpm_pkgdb.specs.Slots.{slot_with}
use Rattle.rpm_pkgdb.specs.Store.{Store, store}

-- the units outside a range are as before; the file didn't get shorter, and ends where it did or by the end of the
-- range
pub record SameOutside (at n : ℕ) (old new : Units) : Type 0 where
  pub below : (i : ℕ) → i < at → unit_at new i ≡ unit_at old i
  pub above : (i : ℕ) → at + n ≤ i → unit_at new i ≡ unit_at old i
  pub no_shorter : length old ≤ length new
  pub no_longer : length new ≤ max (length old) (at + n)

-- the units in the blocks of a number's slot; None where no slot has the number
abbrev pub blocks_with : ℕ → Store → Units → Option Units
blocks_with n value file = option_map (λ s. take s.count (drop s.offset file)) (slot_with n value.slots)

-- each package's blocks have the bytes from before
abbrev pub AllStay : Store → Units → Store → Units → Type 0
AllStay old before new after = (n : ℕ) → blocks_with n new after ≡ blocks_with n old before

-- each package but this one keeps its blocks
abbrev pub OthersStay : ℕ → Store → Units → Store → Units → Type 0
OthersStay n old before new after = (m : ℕ) → m ≢ n → blocks_with m new after ≡ blocks_with m old before

-- an image says a store in which each package's blocks have the bytes from before, but this one's
-- may be the new ones
pub record StaysBut (n : ℕ) (new : Option Units) (old : Store) (before image : Units) : Type 0 where
  pub said : Store
  pub undamaged : store image ≡ Ok said
  pub others : OthersStay n old before said image
  pub own : (blocks_with n said image ≡ new) ⊎ (blocks_with n said image ≡ blocks_with n old before)
