-- What a command that changes packages leaves to the next one beside the packages and the index: the store after its
-- changes, and how long the files are. On it rest `next` and `images` of `changes.changed`, and `changes.log`, on the
-- page (`rpm_tool`, Theorem.antt).
use Rattle.std.specs.Prelude.{◌≡◌, ◌≤◌, ◌==◌, if◌then◌else◌, max, List, length, Bool, true, IfOk}
use Rattle.rpm_outside.specs.Files.{Units, Files, unit_at}
use Rattle.rpm_hindex.specs.Index.{records}
use Rattle.rpm_hindex.specs.Plans.{reach_with}
use Rattle.rpm_hindex.specs.Sizes.{units_for}
use Rattle.rpm_hindex.specs.State.{buckets_of}
use Rattle.rpm_pkgdb.specs.Reaches.{store_end}
use Rattle.rpm_pkgdb.specs.Store.{Store, store}
use Rattle.rpm_pkgdb.specs.Written.{made_new}
use Rattle.rpm_db.specs.Changes.{Change}
use Rattle.rpm_db.specs.Rows.{rows}
use Rattle.rpm_db.specs.State.{State, state}
use Rattle.rpm_change.specs.ByIndex.{ByIndex}
use Rattle.rpm_change.specs.Reaches.{all_added, pkg_reach, idx_reach}
use Rattle.rpm_effects.specs.Steps.{Course}
use Rattle.rpm_commit.specs.Lawful.{MayBegin}

-- ---- the store

-- the store that the first change finds: where there is no database, one is made
abbrev pub begun_store : Store → Store
begun_store value = if value.pages == 0 then made_new value else value

-- ---- the files

-- no file is longer than these changes make what was found: a blank Packages.db gets its first page before them, and
-- Hindex.db is an index of the packages, or the one that is found with the rows that they add
pub record LengthsOn (indexed : Bool) (pkg idx : Units) (value : Store) (s : State) (changes : List Change)
    (made : Files) : Type 0 where
  pub pkg_is : length made.pkg ≤ pkg_reach (max (length pkg) (store_end (begun_store value)))
      (begun_store value) changes
  pub idx_is : indexed ≡ true → length made.idx ≤ idx_reach (max (length idx) (units_for (rows s.packages))) s changes
  pub idx_most : length made.idx ≤ max (idx_reach (max (length idx) (units_for (rows s.packages))) s changes)
      (reach_with (all_added s changes) (records (buckets_of (unit_at idx 0)) idx) (length idx))

-- no file is longer than the changes of a course make it, unless Packages.db was damaged, and where the command may begin
-- Hindex.db as they make the index of the packages
abbrev pub ReachesBy : Bool → Type 0 → (State → Course) → Files → Files → Type 0
ReachesBy anew Lawful course files made =
    ByIndex (MayBegin anew Lawful) (λ indexed. IfOk (store files.pkg) (λ value.
    let s = state files.pkg value in LengthsOn indexed files.pkg files.idx value s (course s).changes made))
