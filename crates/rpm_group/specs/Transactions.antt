-- A transaction of changes: what is held of the two files.
use Rattle.std.specs.Prelude.{◌≡◌, ◌⊎◌, ℕ, ◌+◌, ◌*◌, ◌≤◌, IsTrue, length, max}
use Rattle.rpm_outside.specs.declared.disk.Disk as disk
use Rattle.rpm_outside.specs.Crash.{IsUntouched}
use Rattle.rpm_outside.specs.declared.disk.File.{File}
use Rattle.rpm_outside.specs.Files.{Files, Units, unit_at}
use Rattle.rpm_group.specs.Crashes.{ReopensAs}
use Rattle.rpm_group.specs.declared.layers.Layers.{Layers}
use Rattle.rpm_group.specs.declared.pages.Pages.{Pages}
use Rattle.rpm_group.specs.Counts.{is_held, begins_run, count_below, log_units}

-- how many runs there are, and how many units a log takes for them
abbrev pub runs_of : Pages → ℕ
runs_of pages = count_below (begins_run pages.table.items) pages.end

-- how many units of a file the overlay holds
abbrev pub held_of : Pages → ℕ
held_of pages = count_below (is_held pages.table.items) pages.end

-- the units that the log needs for a file's held units
abbrev pub units_of_log : Pages → ℕ
units_of_log pages = log_units pages.table.items pages.end

-- how many units are held
abbrev pub held_units : Layers → ℕ
held_units held = held_of held.pkg + held_of held.idx + held_of held.log

-- how many units a log takes for a transaction: the commit record, a head for each run, and the units
abbrev pub needed_units : Layers → ℕ
needed_units held = 1 + units_of_log held.pkg + units_of_log held.idx

-- no log of a transaction that leaves these files is longer: the commit record, and for each of their units itself and
-- a head
abbrev pub longest_log : Files → ℕ
longest_log files = 1 + 2 * length files.pkg + 2 * length files.idx

-- an image represents the files before or after, and its log isn't malformed
abbrev pub BeforeOrAfter : Files → Files → Files → Type 0
BeforeOrAfter before after image = ReopensAs before image ⊎ ReopensAs after image

-- the units of a log from this one on are as they were, and it is no longer than before or ends by that unit
pub record KeepsBehind (end : ℕ) (old new : Units) : Type 0 where
  pub same : (i : ℕ) → end ≤ i → unit_at new i ≡ unit_at old i
  pub no_shorter : length old ≤ length new
  pub no_longer : length new ≤ max (length old) end

-- a call that changed nothing at all
pub record Unwritten {D : Type 0} (g : disk.Ghosts D) (old new : D) : Type 0 where
  pub untouched : IsTrue g.tells → IsUntouched (g.files old) (g.files new) (g.left_since old) (g.left_since new)
  pub moment_stays : g.moment new ≡ g.moment old
  pub reads : (file : File) → g.bytes_read new file ≡ g.bytes_read old file
