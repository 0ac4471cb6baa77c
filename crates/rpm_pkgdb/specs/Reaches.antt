-- How far a store reaches in its file.
use Rattle.std.specs.Prelude.{ℕ, ◌*◌, ◌≤◌, length, max}
use Rattle.rpm_outside.specs.Files.{Units}
use Rattle.rpm_pkgdb.specs.Slots.{end_of, greatest}
use Rattle.rpm_pkgdb.specs.Store.{Store}

-- the first block after the slot pages and all used blocks
abbrev pub store_end : Store → ℕ
store_end value = max (256 * value.pages) (greatest end_of value.slots)

-- the file ends where it did, or by the end of this store
abbrev pub ReachesTo : Store → Units → Units → Type 0
ReachesTo value old new = length new ≤ max (length old) (store_end value)
