-- How far a change makes Hindex.db reach, and making it anew.
use Rattle.std.specs.Prelude.{ℕ, ◌+◌, ◌≤◌, List, [], length, max}
use Rattle.std.specs.FinMap as finite
use Rattle.rpm_outside.specs.Files.{Units, unit_at}
use Rattle.rpm_hindex.specs.Index.{records}
use Rattle.rpm_hindex.specs.Plans.{reach_with}
use Rattle.rpm_hindex.specs.Rows.{Row}
use Rattle.rpm_hindex.specs.Sizes.{live_of, units_for}
use Rattle.rpm_hindex.specs.State.{buckets_of}
use Rattle.rpm_db.specs.Changes.{Change, Add, Put, Erase, apply, next}
use Rattle.rpm_db.specs.Rows.{rows, package_rows, rows_at}
use Rattle.rpm_db.specs.State.{State, Good}

-- The rows that a change brings into the index.
abbrev pub added_rows : State → Change → List Row
added_rows s (Add bytes) = package_rows (next s) (Good bytes)
added_rows s (Put n bytes) = package_rows n (Good bytes)
added_rows s (Erase n) = []

-- the units of an index of all rows after it, made from scratch
abbrev pub units_needed_after : State → Change → ℕ
units_needed_after s change = units_for (rows (apply change s).packages)

-- the file gets those records after what it has, or is made from scratch; it never gets shorter
abbrev pub Reaches : State → Change → Units → Units → Type 0
Reaches s change old new = length new ≤ max (length old + live_of (added_rows s change)) (units_needed_after s change)

-- the file has what it had, or so many units: those of an index that was rebuilt
abbrev pub ReachesMade : ℕ → Units → Units → Type 0
ReachesMade needed old new = length new ≤ max (length old) needed

-- ---- whatever the index holds

-- the rows that a change takes out of the index
abbrev pub dropped_rows : State → Change → List Row
dropped_rows s (Add bytes) = []
dropped_rows s (Put n bytes) = rows_at n (finite.get s.packages n)
dropped_rows s (Erase n) = rows_at n (finite.get s.packages n)

-- the rows that an index holds, whatever it is
abbrev pub found_rows : Units → List Row
found_rows idx = records (buckets_of (unit_at idx 0)) idx

-- an index that gets these rows is no longer than with their records after it, or than one of all its rows from scratch
abbrev pub Gains : List Row → Units → Units → Type 0
Gains adds old new = length new ≤ reach_with adds (found_rows old) (length old)
