-- The part of a glob in which no set ends.
use Rattle.std.specs.Prelude.{◌≢◌, ℕ, ◌+◌, ◌<◌, ◌≤◌, List, length, slice_index}

-- no ] stands among so many bytes at the end
pub record IsUnclosed (size : ℕ) (glob : List ℕ) : Type 0 where
  pub none : (k : ℕ) → k < length glob → length glob ≤ k + size → slice_index glob k ≢ 93
