-- The order of a transaction's entries in the log.
use Rattle.std.specs.Prelude.{◌≡◌, ℕ, ◌+◌, ◌≤◌, List, [], ◌∷◌, ◌++◌, length}
use Rattle.rpm_outside.specs.declared.disk.File.{File}
use Rattle.rpm_outside.specs.declared.disk.File.TheVariants.{Pkg, Idx}
use Rattle.rpm_outside.specs.Files.{Units, Files, unit_at}
use Rattle.rpm_outside.specs.Logs.{Entry, without_log, with_entries}
use Rattle.rpm_outside.specs.Words.{word}
use Rattle.rpm_outside.specs.LogWrites.{EntriesIn}
use Rattle.rpm_group.specs.declared.layers.Layers.{Layers}
use Rattle.rpm_group.specs.Transactions.{runs_of, needed_units}
use Rattle.rpm_group.specs.Layers.{laid_files}

-- runs of one file, each after the one before it, from a unit on and up to another
abbrev pub AreRuns : File → ℕ → ℕ → List Entry → Type 0
AreRuns file from end [] = from ≤ end
AreRuns file from end (entry ∷ entries) = (entry.file ≡ file) × (from ≤ entry.first)
    × AreRuns file (entry.first + length entry.units) end entries

-- an entry for each run that is held of `Packages.db`, by rising unit, and then those of `Hindex.db`
pub record InOrder (held : Layers) (entries : List Entry) : Type 0 where
  pub pkg : List Entry
  pub idx : List Entry
  pub joined : entries ≡ pkg ++ idx
  pub pkg_runs : AreRuns Pkg 0 held.pkg.end pkg
  pub idx_runs : AreRuns Idx 0 held.idx.end idx
  pub pkg_count : length pkg ≡ runs_of held.pkg
  pub idx_count : length idx ≡ runs_of held.idx

-- the last number of the head of each of these entries is zero, the first of them at this unit
abbrev pub HeadsEndInZeros : List Entry → ℕ → Units → Type 0
HeadsEndInZeros [] p log = Unit {0}
HeadsEndInZeros (entry ∷ entries) p log = (word 3 (unit_at log p) ≡ 0)
    × HeadsEndInZeros entries (p + 1 + length entry.units) log

-- after its first unit the log has the entries that write what is held, in their order
pub record IsLogged (held : Layers) (log : Units) : Type 0 where
  pub entries : List Entry
  pub placed : EntriesIn entries 1 (needed_units held) log
  pub heads : HeadsEndInZeros entries 1 log
  pub order : InOrder held entries
  pub whole : (files : Files) → without_log (with_entries entries files) ≡ without_log (laid_files held files)
