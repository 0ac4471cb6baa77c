-- What a sink took.
use Rattle.std.specs.Prelude.{◌≡◌, ℕ, ◌≤◌, Bool, IsTrue, List, ◌++◌, take, length}

-- what was taken gained these bytes, where it is told
abbrev pub GainIs : Bool → List ℕ → List ℕ → List ℕ → Type 0
GainIs tells old new bytes = IsTrue tells → new ≡ old ++ bytes

-- a sink that tells gained these bytes, or the first of them alone
abbrev pub GainedPart : Bool → List ℕ → List ℕ → List ℕ → Type 0
GainedPart tells old new bytes = (n : ℕ) × (n ≤ length bytes) × GainIs tells old new (take n bytes)

-- the second begins with the first
abbrev pub IsPrefix : List ℕ → List ℕ → Type 0
IsPrefix old new = (bytes : List ℕ) × (new ≡ old ++ bytes)
