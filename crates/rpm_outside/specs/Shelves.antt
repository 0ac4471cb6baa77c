-- What a shelf holds, and what its calls take of it.
use Rattle.std.specs.Prelude.{◌≡◌, ℕ, List, [], ◌++◌, Option, Some, None, Result, Ok, Err}
use Rattle.std.specs.Ordering.{nat_cmp}
use Rattle.std.specs.Cmp.Lexicographic.{slice_cmp}
use Rattle.std.specs.FinMap.{FinMap, get}
use Rattle.rpm_outside.specs.declared.shelf.Absent.{Absent}

-- the bytes under each path
abbrev pub Paths : Type 0
Paths = FinMap (slice_cmp nat_cmp) (List ℕ)

-- the bytes under a path, if there are any
abbrev pub bytes_at : Paths → List ℕ → Option (List ℕ)
bytes_at paths path = get paths path

-- a call of a shelf: it opens this path, or takes bytes into so much room
pub data ShelfCall : Type 0 where
  Open : List ℕ → ShelfCall
  Take : ℕ → ShelfCall

-- opening a path under which there are these bytes, or none
abbrev pub Opens : {T : Type 0} → Option (List ℕ) → Option (List ℕ) → Result T Absent → Type 0
Opens found rest (Ok done) = (rest ≡ found) × (found ≡ None → ⊥)
Opens found rest (Err absent) = (rest ≡ None) × (found ≡ None)

-- an item gave these bytes from the front of what was left of it, and at least one where something was left
abbrev pub TakesFront : Option (List ℕ) → Option (List ℕ) → List ℕ → Type 0
TakesFront None rest taken = (rest ≡ None) × (taken ≡ [])
TakesFront (Some left) None taken = ⊥
TakesFront (Some left) (Some rest) taken = (left ≡ taken ++ rest) × (taken ≡ [] → left ≡ [])
