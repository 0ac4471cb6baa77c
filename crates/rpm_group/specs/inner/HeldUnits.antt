-- Units that are held one after the other.
use Rattle.std.specs.Prelude.{◌≡◌, ℕ, ◌<◌, ◌≤◌, true, unwrap_or, map}
use Rattle.std.specs.List.{range_with_len}
use Rattle.rpm_outside.specs.Files.{Units, blank}
use Rattle.rpm_group.specs.Held.{Table, held_at}
use Rattle.rpm_group.specs.Counts.{is_held}

-- a table's units from this one on, as they are held
unfoldable pub units_held : Table → ℕ → ℕ → Units
units_held table from n = map (λ i. unwrap_or (held_at table i) blank) (range_with_len from n)

-- all of these units are held
abbrev pub AreHeld : Table → ℕ → ℕ → Type 0
AreHeld table from end = (i : ℕ) → from ≤ i → i < end → is_held table i ≡ true
