-- The runs of held units as entries.
use Rattle.std.specs.Prelude.{◌≡◌, ℕ, ◌-◌, ◌<◌, ◌≤◌, List, length, max, true, false}
use Rattle.rpm_outside.specs.declared.disk.File.{File}
use Rattle.rpm_outside.specs.Files.{Files, file_of, unit_at}
use Rattle.rpm_outside.specs.Logs.{Entry, with_entries}
use Rattle.rpm_outside.specs.Entries.{Covers}
use Rattle.rpm_group.specs.Held.{Table, unit_over}
use Rattle.rpm_group.specs.Counts.{is_held, begins_run, count_below}
use Rattle.rpm_group.specs.Orders.{AreRuns}
use Rattle.rpm_group.specs.inner.HeldUnits.{units_held}

-- a list of entries writes what is held of a file below a unit, and nothing else
pub record EntriesOfTable (entries : List Entry) (file : File) (table : Table) (below : ℕ) : Type 0 where
  pub covers : (i : ℕ) → i < below → is_held table i ≡ true → Covers entries file i
  pub units : (files : Files) (i : ℕ) → i < below
      → unit_at (file_of file (with_entries entries files)) i ≡ unit_over table (file_of file files) i
  pub rest : (files : Files) (i : ℕ) → below ≤ i
      → unit_at (file_of file (with_entries entries files)) i ≡ unit_at (file_of file files) i
  pub others : (files : Files) (other : File) → (other ≡ file → ⊥)
      → file_of other (with_entries entries files) ≡ file_of other files
  -- the end of the last of them
  pub end : ℕ
  pub long : (files : Files) → length (file_of file (with_entries entries files))
      ≡ max (length (file_of file files)) end
  pub end_below : end ≤ below
  pub gap : (i : ℕ) → end ≤ i → i < below → is_held table i ≡ false
  pub count : length entries ≡ count_below (begins_run table) below
  pub runs : AreRuns file 0 below entries

-- the entry of a run
abbrev pub run_entry : File → Table → ℕ → ℕ → Entry
run_entry file table first stop = record { file = file; first = first; units = units_held table first (stop - first) }

-- a list of entries writes each unit that is held
abbrev pub CoversHeld : List Entry → File → Table → ℕ → Type 0
CoversHeld entries file table end = (i : ℕ) → i < end → is_held table i ≡ true → Covers entries file i
