-- How far the two files reach, once the changes of a command are made: as in a transaction, a file never gets shorter.
use Rattle.std.specs.Prelude.{◌≡◌, ℕ, ◌+◌, ◌≤◌, max, List, [], ◌∷◌, ◌++◌, length, Bool, true, unwrap_or}
use Rattle.rpm_outside.specs.Files.{Files}
use Rattle.rpm_hindex.specs.Rows.{Row}
use Rattle.rpm_hindex.specs.Sizes.{live_of, units_for}
use Rattle.rpm_pkgdb.specs.Reaches.{store_end}
use Rattle.rpm_pkgdb.specs.Store.{Store}
use Rattle.rpm_db.specs.Changes.{Change, apply}
use Rattle.rpm_db.specs.Reaches.{added_rows, units_needed_after}
use Rattle.rpm_db.specs.Room.{next_store}
use Rattle.rpm_db.specs.Rows.{rows}
use Rattle.rpm_db.specs.State.{State}

-- Packages.db reaches as far as it did, and to the end of each store on the way
abbrev pub pkg_reach : ℕ → Store → List Change → ℕ
pkg_reach units value [] = units
pkg_reach units value (change ∷ changes) =
    let next = unwrap_or (next_store change value) value in pkg_reach (max units (store_end next)) next changes

-- Hindex.db gets the records that a change adds after what it has, or is made from scratch
abbrev pub idx_reach : ℕ → State → List Change → ℕ
idx_reach units s [] = units
idx_reach units s (change ∷ changes) =
    idx_reach (max (units + live_of (added_rows s change)) (units_needed_after s change)) (apply change s) changes

-- the rows that these changes bring into the index, from a state on
abbrev pub all_added : State → List Change → List Row
all_added s [] = []
all_added s (change ∷ changes) = added_rows s change ++ all_added (apply change s) changes

-- no file is longer than these changes make it; Hindex.db where the index is asked
pub record ChangesReach (indexed : Bool) (s : State) (value : Store) (changes : List Change)
    (old new : Files) : Type 0 where
  pub pkg : length new.pkg ≤ pkg_reach (length old.pkg) value changes
  pub idx : indexed ≡ true → length new.idx ≤ idx_reach (length old.idx) s changes

-- a list of changes leaves the files no longer than this where the index is made before them, whatever it was
pub record ChangesReachAnew (s : State) (value : Store) (changes : List Change) (old new : Files) : Type 0 where
  pub pkg : length new.pkg ≤ pkg_reach (length old.pkg) value changes
  pub idx : length new.idx ≤ idx_reach (max (length old.idx) (units_for (rows s.packages))) s changes
