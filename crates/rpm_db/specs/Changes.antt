-- Changes of a database: what each makes of its state, and what crashes leave meanwhile.
use Rattle.std.specs.Prelude.{◌≡◌, ◌⊎◌, ℕ, ◌+◌, List, [], ◌∷◌, ◌≤◌, max, true, Option, Some, None, Ok}
use Rattle.std.specs.FinMap as finite
use Rattle.rpm_outside.specs.declared.disk.File.TheVariants.{Idx}
use Rattle.rpm_outside.specs.Files.{Units, Files}
use Rattle.rpm_outside.specs.Changes.{IsDurable}
use Rattle.rpm_pkgdb.specs.declared.added_page.Move.{Move}
use Rattle.rpm_pkgdb.specs.Costs.{cost}
use Rattle.rpm_pkgdb.specs.Growing.{NeedsPage, moving_cost}
use Rattle.rpm_pkgdb.specs.Quiet.{IsQuiet}
use Rattle.rpm_pkgdb.specs.Store.{Store, store}
use Rattle.rpm_pkgdb.specs.Written.{with_spare}
use Rattle.rpm_db.specs.Database.{Database, Keeps, KeepsIndex, database_of, store_of}
use Rattle.rpm_db.specs.Lawful.{IsLawful}
use Rattle.rpm_db.specs.State.{State, Good, state}

-- a header's own bytes under the next number, or under one that is there; or a number that is taken out
pub data Change : Type 0 where
  Add : List ℕ → Change
  Put : ℕ → List ℕ → Change
  Erase : ℕ → Change

-- The change that a header makes: under a number that is there, or under the next one.
abbrev pub change_at : Option ℕ → List ℕ → Change
change_at None bytes = Add bytes
change_at (Some n) bytes = Put n bytes

-- the greatest number of these entries, 0 where there are none
abbrev pub greatest_in : {X : Type 0} → List (ℕ × X) → ℕ
greatest_in [] = 0
greatest_in (e ∷ es) = max e.0 (greatest_in es)

-- the number of the next package: the greater of the field and one above the greatest number
abbrev pub next : State → ℕ
next s = max s.field (greatest_in (finite.entries s.packages) + 1)

-- the number of the package that a change is of
abbrev pub changed_number : Change → State → ℕ
changed_number (Add bytes) s = next s
changed_number (Put n bytes) s = n
changed_number (Erase n) s = n

-- the state after a change: the field rises with a new number alone
abbrev pub apply : Change → State → State
apply (Add bytes) s = record { packages = finite.insert s.packages (next s) (Good bytes); field = next s + 1 }
apply (Put n bytes) s = record { packages = finite.insert s.packages n (Good bytes); field = s.field }
apply (Erase n) s = record { packages = finite.remove s.packages n; field = s.field }

-- ---- what crashes leave

-- the state before a change, the packages before it with the field after it, or the state after it
abbrev pub IsBetween : State → State → State → Type 0
IsBetween before after s =
    (s ≡ before) ⊎ ((s ≡ record { packages = before.packages; field = after.field }) ⊎ (s ≡ after))

-- an undamaged Packages.db that says such a state
pub record Says (P : State → Type 0) (pkg : Units) : Type 0 where
  pub value : Store
  pub undamaged : store pkg ≡ Ok value
  pub is : P (state pkg value)

-- each of these images says this state
abbrev pub AllSay : State → (Files → Type 0) → Type 0
AllSay s images = (image : Files) → images image → Says (λ t. t ≡ s) image.pkg

-- a lawful image with the log of one of these: its packages and its number field are those of that one too, or of this
-- state or the next
pub record IsChangedStill (before after : State) (images : Files → Type 0) (image : Files) : Type 0 where
  pub from : Files
  pub was : images from
  pub log : image.log ≡ from.log
  pub lawful : IsLawful image.pkg image.idx
  pub says : (image.pkg ≡ from.pkg) ⊎ Says (IsBetween before after) image.pkg

-- ---- what a changing call asks for and leaves

-- what a value keeps is what the files say, each crash leaves the same packages, and the index is durable
pub record IsServing (files : Files) (images : Files → Type 0) (db : Database) : Type 0 where
  pub keeps : Keeps files.pkg db
  pub index : KeepsIndex files.idx db
  pub quiet : IsQuiet (store_of db) files images
  pub durable : IsDurable Idx files images

-- a value that may have made room in memory, and is the same
abbrev pub with_room : ℕ → Database → Database
with_room spare db = database_of (with_spare spare (store_of db)) db.index db.stopped

-- what putting reads at most of Packages.db: the package that a number has; and for a new number the ranges that a slot
-- page moves, if one is added
abbrev pub ReadsAtMost : Option ℕ → Store → ℕ → ℕ → Type 0
ReadsAtMost (Some n) value old new = new ≤ old + cost n value
ReadsAtMost None value old new = (new ≤ old) ⊎ ((moves : Option (List Move)) × NeedsPage value true moves
    × (new ≤ old + moving_cost value.slots moves))
