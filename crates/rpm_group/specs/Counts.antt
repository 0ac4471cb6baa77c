-- How many units are held, and in how many runs.
use Rattle.std.specs.Prelude.{◌≡◌, ℕ, ◌+◌, ◌<◌, ◌≤◌, Bool, ◌&&◌, not, is_some, if◌then◌else◌}
use Rattle.std.proofs.Common.{zero, suc}
use Rattle.rpm_group.specs.Held.{Table, held_at}

-- how many numbers below n pass a test
unfoldable pub count_below : (ℕ → Bool) → ℕ → ℕ
count_below test zero = 0
count_below test (suc n) = count_below test n + (if test n then 1 else 0)

-- whether the overlay holds a unit
abbrev pub is_held : Table → ℕ → Bool
is_held table i = is_some (held_at table i)

-- a unit is held, and the one before it isn't
unfoldable pub begins_run : Table → ℕ → Bool
begins_run table zero = is_held table 0
begins_run table (suc i) = is_held table (suc i) && not (is_held table i)

-- how many units a log takes for what is held of a file: a head for each run, and the units
abbrev pub log_units : Table → ℕ → ℕ
log_units table end = count_below (begins_run table) end + count_below (is_held table) end

-- the first place from one on where it is so or isn't, or the end
pub record IsNextPlace (is : ℕ → Bool) (so : Bool) (first last next : ℕ) : Type 0 where
  pub from : first ≤ next
  pub end : next ≤ last
  pub between : (k : ℕ) → first ≤ k → k < next → is k ≡ not so
  pub found : next < last → is next ≡ so
