-- Entries that stand in a log, and the commit record that opens it.
use Rattle.std.specs.Prelude.{◌≡◌, ℕ, ◌+◌, ◌<◌, ◌≤◌, List, [], ◌∷◌, length, false}
use Rattle.rpm_outside.specs.declared.disk.File.{File}
use Rattle.rpm_outside.specs.declared.disk.File.TheVariants.{Pkg, Idx, Log}
use Rattle.rpm_outside.specs.Files.{Units, unit_at}
use Rattle.rpm_outside.specs.Logs.{Entry, is_blank_unit}
use Rattle.rpm_outside.specs.Words.{word}

-- a file's number in a head
abbrev pub number_of_file : File → ℕ
number_of_file Pkg = 1
number_of_file Idx = 2
number_of_file Log = 0

-- an entry stands in a log from unit p on
pub record EntryIn (entry : Entry) (p : ℕ) (log : Units) : Type 0 where
  pub not_log : entry.file ≡ Log → ⊥
  pub file : word 0 (unit_at log p) ≡ number_of_file entry.file
  pub first : word 1 (unit_at log p) ≡ entry.first
  pub count : word 2 (unit_at log p) ≡ length entry.units
  pub some : 0 < length entry.units
  pub room : entry.first + length entry.units ≤ 268_435_456
  pub within : p + length entry.units < length log
  pub units : (k : ℕ) → k < length entry.units → unit_at log (p + 1 + k) ≡ unit_at entry.units k

-- entries stand in a log one after the other, from unit p on as far as this end
abbrev pub EntriesIn : List Entry → ℕ → ℕ → Units → Type 0
EntriesIn [] p end log = p ≡ end
EntriesIn (entry ∷ entries) p end log = EntryIn entry p log × EntriesIn entries (p + 1 + length entry.units) end log

-- a commit record for so many entries as far as this unit
pub record IsCommitRecord (commit_record : List ℕ) (entries last : ℕ) : Type 0 where
  pub magic : word 0 commit_record ≡ 0x4c6d_7052
  pub version : word 1 commit_record ≡ 1
  pub count : word 2 commit_record ≡ entries
  pub end : word 3 commit_record ≡ last
  pub full : is_blank_unit commit_record ≡ false
