-- What a run of reads takes of a shelf.
use Rattle.std.specs.Prelude.{◌≡◌, ℕ, ◌≤◌, IsTrue, List, [], ◌++◌, Option, Some, None, is_some}
use Rattle.rpm_outside.specs.declared.shelf.Shelf as shelf

-- the bytes that reads will give, none where no item is open
abbrev pub bytes_left : Option (List ℕ) → List ℕ
bytes_left None = []
bytes_left (Some bytes) = bytes

-- the item gave these bytes from the front of what was left of it; an open item stays open, and none is opened
pub record Takes (old new : Option (List ℕ)) (taken : List ℕ) : Type 0 where
  pub front : bytes_left old ≡ taken ++ bytes_left new
  pub opened : is_some new ≡ is_some old

-- some bytes were
abbrev pub TakesSome : Option (List ℕ) → Option (List ℕ) → Type 0
TakesSome old new = (taken : List ℕ) × Takes old new taken

-- bytes were taken from the front of the open item, and nothing else was done
pub record Browses {S : Type 0} (s : shelf.Ghosts S) (old new : S) : Type 0 where
  pub paths_stay : IsTrue s.tells → s.paths new ≡ s.paths old
  pub taken : IsTrue s.tells → TakesSome (s.rest old) (s.rest new)
  pub absences_stay : s.absences new ≡ s.absences old
  pub later : s.faults old ≤ s.faults new
