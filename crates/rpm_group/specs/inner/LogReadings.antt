-- What was read of a log.
use Rattle.std.specs.Prelude.{◌≡◌, ℕ, ◌+◌, ◌<◌, ◌≤◌, ◌^◌, length, true, false, Option, Some, None}
use Rattle.rpm_outside.specs.declared.disk.File.TheVariants.{Log}
use Rattle.rpm_outside.specs.Files.{Units, unit_at}
use Rattle.rpm_outside.specs.Logs.{LogState, Closed, Malformed, is_log_head, entry_at, heads, log_state}
use Rattle.rpm_outside.specs.Words.{word}
use Rattle.rpm_group.specs.declared.log.CommitRecord.{CommitRecord}
use Rattle.rpm_group.specs.declared.log.Head.{Head}
use Rattle.rpm_group.specs.declared.log.Reading.{Reading}
use Rattle.rpm_group.specs.declared.log.Reading.TheVariants.{Shut, Bad, Opened}
use Rattle.rpm_group.specs.Readings.{IsOpen}

-- what the heads after a commit record say
abbrev pub heads_behind : CommitRecord → Units → LogState
heads_behind commit_record log = heads commit_record.entries 1 commit_record.last log

-- the commit record that was read is that of this log, whose heads weren't looked at
abbrev pub CommitRecordSays : Reading → Units → Type 0
CommitRecordSays Shut log = log_state log ≡ Closed
CommitRecordSays (Bad unit) log = log_state log ≡ Malformed unit
CommitRecordSays (Opened commit_record) log = (log_state log ≡ heads_behind commit_record log)
    × (commit_record.last < length log)

-- what was read is what the log says
abbrev pub LogSays : Reading → Units → Type 0
LogSays Shut log = log_state log ≡ Closed
LogSays (Bad unit) log = log_state log ≡ Malformed unit
LogSays (Opened commit_record) log = (log_state log ≡ heads_behind commit_record log)
    × (commit_record.last < length log) × IsOpen (log_state log)

-- a head whose units end at the last unit of the log or before
pub record IsHead (last p : ℕ) (head : Head) : Type 0 where
  pub not_log : head.file ≡ Log → ⊥
  pub some : 0 < head.count
  pub room : head.first + head.count ≤ 2 ^ 28
  pub within : p + head.count ≤ last

-- the head at unit p of this log
pub record HeadIs (last p : ℕ) (log : Units) (head : Head) : Type 0 where
  pub right : is_log_head last p (unit_at log p) ≡ true
  pub file : head.file ≡ (entry_at p log).file
  pub first : head.first ≡ (entry_at p log).first
  pub count : head.count ≡ word 2 (unit_at log p)

-- there is this head at unit p, or none
abbrev pub HeadSays : ℕ → ℕ → Units → Option Head → Type 0
HeadSays last p log (Some head) = HeadIs last p log head
HeadSays last p log None = is_log_head last p (unit_at log p) ≡ false

-- the first wrong unit among the heads, or none
abbrev pub HeadsSay : LogState → Option ℕ → Type 0
HeadsSay state (Some unit) = state ≡ Malformed unit
HeadsSay state None = IsOpen state
