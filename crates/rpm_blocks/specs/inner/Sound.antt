-- What is true of the fields of a set.
use Rattle.std.specs.Prelude.{◌+◌, ◌*◌, ◌≤◌, vec_len, vec_capacity}
use Rattle.rpm_blocks.specs.declared.Used.TheInside.{Inside}
use Rattle.rpm_blocks.specs.Blocks.{AreApart}
use Rattle.rpm_blocks.specs.inner.Places.{HaveSameBlocks}

-- Each insert takes a place in both vectors at most, and each removal one more among the runs, where it splits one.
pub record IsUsedSound (u : Inside) : Type 0 where
  pub ranges : AreApart 0 u.ranges.items
  pub runs : AreApart 1 u.runs.items
  pub same : HaveSameBlocks u.ranges.items u.runs.items
  pub room : vec_len u.ranges + u.spare ≤ vec_capacity u.ranges
  pub runs_room : vec_len u.runs + 2 * u.spare + vec_len u.ranges ≤ vec_capacity u.runs
