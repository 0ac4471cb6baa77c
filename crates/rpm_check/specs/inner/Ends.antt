-- Where the edges from one package end.
use Rattle.std.specs.Prelude.{ℕ, ◌<◌, ◌≤◌, List, [], ◌∷◌, Bool, true, false, not, ◌&&◌, ◌==◌, Option, Some, None}
use Rattle.rpm_tags.specs.Wanted.{Need}
use Rattle.rpm_db.specs.State.{Package}
use Rattle.rpm_graph.specs.declared.graph.Edge.{Edge}
use Rattle.rpm_select.specs.Reach.{is_in}
use Rattle.rpm_check.specs.inner.Parts.{is_good, needs_of}

-- nothing where no package has the number
abbrev pub needs_at : Option Package → List Need
needs_at None = []
needs_at (Some p) = needs_of p

-- a number has a package, and that can be read
abbrev pub is_good_at : Option Package → Bool
is_good_at None = false
is_good_at (Some p) = is_good p

-- an edge ends at another number that is among these
abbrev pub is_end : List ℕ → ℕ → ℕ → Bool
is_end numbers n m = not (n == m) && is_in m numbers

-- a number, where its package can be read
abbrev pub good_if : Bool → ℕ → List ℕ
good_if true n = n ∷ []
good_if false n = []

-- a package's number, where it is Good
abbrev pub good_of : ℕ × Package → List ℕ
good_of e = good_if (is_good e.1) e.0

-- an edge begins below a number, or at most there
abbrev pub BeginsBelow : ℕ → Edge → Type 0
BeginsBelow n e = e.from < n

-- an edge begins at a number or below it
abbrev pub BeginsUpTo : ℕ → Edge → Type 0
BeginsUpTo n e = e.from ≤ n
