-- What a log says, and the files that it represents.
use Rattle.std.specs.Prelude.{ℕ, ◌+◌, ◌==◌, nat_lt, nat_le, if◌then◌else◌, Bool, ◌&&◌, List, [], ◌∷◌, take, drop}
use Rattle.std.specs.Prelude.{length}
use Rattle.std.proofs.Common.{zero, suc}
use Rattle.std.specs.List.{list_all}
use Rattle.rpm_outside.specs.declared.disk.File.{File}
use Rattle.rpm_outside.specs.declared.disk.File.TheVariants.{Pkg, Idx}
use Rattle.rpm_outside.specs.Files.{Units, Files, file_of, with_file, unit_at, with_units}
use Rattle.rpm_outside.specs.Words.{word}

-- units to be written to a file from this one on
pub record Entry : Type 0 where
  pub file : File
  pub first : ℕ
  pub units : Units

-- a log has nothing to say, or is wrong at a unit, or says these entries
pub data LogState : Type 0 where
  Closed : LogState
  Malformed : ℕ → LogState
  Open : List Entry → LogState

-- a unit of zeros
abbrev pub is_blank_unit : List ℕ → Bool
is_blank_unit unit = list_all (λ b. b == 0) unit

-- a commit record is `RpmL`, version 1, the number of entries, and the last unit, which the log has
unfoldable pub is_commit_record : ℕ → List ℕ → Bool
is_commit_record units commit_record = (word 0 commit_record == 0x4c6d_7052)
    && ((word 1 commit_record == 1) && (nat_lt 0 (word 2 commit_record) && nat_lt (word 3 commit_record) units))

-- a head at unit p is 1 or 2 for the file, the first unit, and the count; its units end at the last unit of the log or
-- before
unfoldable pub is_log_head : ℕ → ℕ → List ℕ → Bool
is_log_head last p head =
    nat_le p last
    && (nat_le 1 (word 0 head)
    && (nat_le (word 0 head) 2 && (nat_lt 0 (word 2 head)
    && (nat_le (word 1 head + word 2 head) 268_435_456 && nat_le (p + word 2 head) last))))

-- the entry whose head is at unit p
unfoldable pub entry_at : ℕ → Units → Entry
entry_at p units =
    let head = unit_at units p in
    record {
      file = if word 0 head == 1 then Pkg else Idx;
      first = word 1 head;
      units = take (word 2 head)
          (drop (p + 1) units);
    }

-- an entry before those of a log
abbrev pub before : Entry → LogState → LogState
before entry Closed = Closed
before entry (Malformed unit) = Malformed unit
before entry (Open entries) = Open (entry ∷ entries)

-- what so many heads say, the first at unit p, of which the last entry ends at the last unit
unfoldable pub heads : ℕ → ℕ → ℕ → Units → LogState
heads zero p last units = if p == last + 1 then Open [] else Malformed p
heads (suc n) p last units = if is_log_head last p (unit_at units p)
    then before (entry_at p units) (heads n (p + 1 + word 2 (unit_at units p)) last units)
    else Malformed p

-- a log is closed where its first unit is zeros or isn't there; else its first unit is a commit record, and heads
-- follow
unfoldable pub log_state : Units → LogState
log_state units =
    let commit_record = unit_at units 0 in
    if is_blank_unit commit_record then Closed else (if is_commit_record (length units) commit_record then heads
    (word 2 commit_record) 1 (word 3 commit_record) units else Malformed 0)

-- the files with an entry written
abbrev pub with_entry : Entry → Files → Files
with_entry entry files = with_file entry.file (with_units entry.first entry.units (file_of entry.file files)) files

-- several entries are written in order
abbrev pub with_entries : List Entry → Files → Files
with_entries [] files = files
with_entries (entry ∷ entries) files = with_entries entries (with_entry entry files)

-- the files without the log
abbrev pub without_log : Files → Files
without_log files = record { pkg = files.pkg; idx = files.idx; log = [] }

-- the files with the transaction of an open log applied
abbrev pub with_state : LogState → Files → Files
with_state Closed files = files
with_state (Malformed unit) files = files
with_state (Open entries) files = with_entries entries files

-- what the files represent: the other two files, with the entries of an open log written over them
abbrev pub reopened_files : Files → Files
reopened_files files = with_state (log_state files.log) (without_log files)
