-- The limits that the changes of a command meet: going through them in order, the first that is refused decides.
use Rattle.rpm_db.specs.Reaches.{units_needed_after}
use Rattle.std.specs.Prelude.{◌≡◌, ◌+◌, ◌^◌, ◌==◌, ◌&&◌, nat_lt, if◌then◌else◌, List, [], ◌∷◌, length, Bool, true}
use Rattle.std.specs.Prelude.{false, Option, Some, None, is_none, unwrap_or, Result, Ok, Err, OnOk}
use Rattle.std.specs.Option.{option_or, option_and_then}
use Rattle.rpm_hindex.specs.Sizes.{units_for}
use Rattle.rpm_outside.specs.Files.{Files}
use Rattle.rpm_pkgdb.specs.Store.{Store}
use Rattle.rpm_db.specs.Changes.{Change, Add, apply, next}
use Rattle.rpm_db.specs.Room.{RoomBecomes, next_store}
use Rattle.rpm_db.specs.Rows.{rows}
use Rattle.rpm_db.specs.State.{State}
use Rattle.rpm_effects.specs.declared.tally.Tally.{Tally}
use Rattle.rpm_effects.specs.declared.tally.Halt.{Halt}
use Rattle.rpm_effects.specs.declared.tally.Halt.TheVariants as halt
use Rattle.rpm_change.specs.Reaches.{ChangesReach}

-- ---- one change

-- a change is spent when it needs a new number and none is left
abbrev pub is_spent : State → Change → Bool
is_spent s (Add bytes) = next s == 4294967295
is_spent s others = false

-- what refuses it in this state and this store, the first that does: numbers, generations, places, and units, where the
-- index is asked
abbrev pub limit_of_change : Bool → State → Store → Change → Option Halt
limit_of_change indexed s value change =
    let needed = units_needed_after s change in
    if is_spent s change then Some halt.NumbersSpent
    else if value.generation == 4294967295 then Some halt.GenerationSpent
    else if is_none (next_store change value) then Some halt.StoreFull
    else if indexed && nat_lt (2 ^ 28) needed then Some (halt.IndexFull needed) else None

-- ---- several changes, one after the other

-- what refuses the first of them that is refused; each finds what those before it leave
abbrev pub limit_of_changes : Bool → State → Store → List Change → Option Halt
limit_of_changes indexed s value [] = None
limit_of_changes indexed s value (change ∷ changes) =
    option_or (limit_of_change indexed s value change)
    (limit_of_changes indexed (apply change s) (unwrap_or (next_store change value) value) changes)

-- a list of changes meets this limit first; where the index is made before them, it has to hold the rows of the
-- packages as they are
abbrev pub limit_of_command : Bool → State → Store → List Change → Option Halt
limit_of_command makes s value changes =
    let needed = units_for (rows s.packages) in
    if makes && nat_lt (2 ^ 28) needed then Some (halt.IndexFull needed) else limit_of_changes true s value changes

-- the store after them, and None where one of them finds no place
abbrev pub next_stores : List Change → Store → Option Store
next_stores [] value = Some value
next_stores (change ∷ changes) value = option_and_then (next_stores changes) (next_store change value)

-- ---- a command

-- a stop for one of these limits, or for the index, where it is asked: for a bad one nothing is ever refused then
abbrev pub is_limit : Bool → Halt → Bool
is_limit indexed halt.NumbersSpent = true
is_limit indexed halt.GenerationSpent = true
is_limit indexed halt.StoreFull = true
is_limit indexed (halt.IndexFull told) = indexed
is_limit indexed (halt.BadIndex unit) = indexed
is_limit indexed others = false

-- where it was done nothing refuses a change, and where a limit stopped it that one is the first
abbrev pub MeetsLimit : Bool → Option Halt → Result Tally Halt → Type 0
MeetsLimit indexed first (Ok tally) = first ≡ None
MeetsLimit indexed first (Err h) = is_limit indexed h ≡ true → first ≡ Some h

-- a list of changes meets its first limit, or is made: the store is then that after them, up to room in memory, the
-- generation rose by each, and no file is longer than they make it
pub record LimitsTurn (indexed : Bool) (s : State) (old new : Store) (before after : Files) (changes : List Change)
    (r : Result Tally Halt) : Type 0 where
  pub first : MeetsLimit indexed (limit_of_changes indexed s old changes) r
  pub stores : OnOk r (RoomBecomes (next_stores changes old) old new)
  pub raised : OnOk r (new.generation ≡ old.generation + length changes)
  pub reached : OnOk r (ChangesReach indexed s old changes before after)
