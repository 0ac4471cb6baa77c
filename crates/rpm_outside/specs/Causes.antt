-- When a count rises, and what may come only where it did.
use Rattle.std.specs.Prelude.{◌≡◌, ℕ, ◌+◌, ◌-◌, ◌^◌, ◌≤◌, min, Bool, true, false, OnErr, Result}

-- a count that rose, or stands at the last value of its type
abbrev pub Rose : ℕ → ℕ → Type 0
Rose before now = min (before + 1) (2 ^ 64 - 1) ≤ now

-- a count of failed calls: it rises by one where a call fails, up to the last value of its type, and nowhere else
abbrev pub CountsFailures : Bool → ℕ → ℕ → Type 0
CountsFailures false before now = now ≡ before
CountsFailures true before now = now ≡ min (before + 1) (2 ^ 64 - 1)

-- a count that rose by a number, or stands at the last value of its type
pub record RoseBy (before by now : ℕ) : Type 0 where
  pub later : before ≤ now
  pub no_less : min (before + by) (2 ^ 64 - 1) ≤ now
  pub no_more : now ≤ before + by

-- an error comes only where the count rose
pub record HasCause {T E : Type 0} (before now : ℕ) (result : Result T E) : Type 0 where
  pub later : before ≤ now
  pub failed : OnErr result (Rose before now)

-- something comes only where the count rose
pub record HasCauseAt (what : Type 0) (before now : ℕ) : Type 0 where
  pub later : before ≤ now
  pub rose : what → Rose before now
