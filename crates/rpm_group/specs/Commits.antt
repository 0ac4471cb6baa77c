-- What a commit answers.
use Rattle.std.specs.Prelude.{◌≡◌, ℕ, ◌^◌, ◌<◌, ◌≤◌, IsTrue, OnOk, Result, Ok, Err}
use Rattle.rpm_outside.specs.Changes.{AreDurable}
use Rattle.rpm_outside.specs.Frame as frame
use Rattle.rpm_outside.specs.Logs.{Closed, log_state, without_log}
use Rattle.rpm_outside.specs.declared.disk.Disk as disk
use Rattle.rpm_group.specs.Frame.{ReadsLog, Unwritten}
use Rattle.rpm_group.specs.Transactions.{needed_units, longest_log, BeforeOrAfter, KeepsBehind}
use Rattle.rpm_group.specs.Layers.{laid_files}
use Rattle.rpm_group.specs.Orders.{IsLogged}
use Rattle.rpm_group.specs.declared.commit.CommitFault.{CommitFault}
use Rattle.rpm_group.specs.declared.commit.CommitFault.TheVariants.{LogFull, DiskFault}
use Rattle.rpm_group.specs.declared.layers.Layers.{Layers}

-- the log has no room for a transaction that needs so many units
abbrev pub IsLogFull : ℕ → Result (Unit {0}) CommitFault → Type 0
IsLogFull units result = result ≡ Err (LogFull units)

-- only a transaction that needs more units than a log may have is refused, and with that number; only one that needs
-- more than the commit record can fail
abbrev pub CommitSays : ℕ → ℕ → Result (Unit {0}) CommitFault → Type 0
CommitSays limit units (Ok done) = Unit {0}
CommitSays limit units (Err (LogFull needed)) = (needed ≡ units) × (limit < units)
CommitSays limit units (Err DiskFault) = 1 < units

module _ {D : Type 0} (d : disk.Ghosts D) where
  -- what is held was made one change of a disk, or the answer tells why not
  pub record IsCommit (held : Layers) (result : Result (Unit {0}) CommitFault) (old new : D) : Type 0 where
    pub files : OnOk result (IsTrue d.tells → without_log (d.files new) ≡ without_log (laid_files held (d.files old)))
    pub closed : OnOk result (IsTrue d.tells → log_state (d.files new).log ≡ Closed)
    pub logged : OnOk result (IsTrue d.tells → IsLogged held (d.files new).log)
    pub durable : OnOk result (IsTrue d.tells → AreDurable (d.files new) (frame.images d new))
    pub images : IsTrue d.tells → frame.CrashLeaves d old new
        (BeforeOrAfter (without_log (d.files old)) (without_log (laid_files held (d.files old))))
    pub behind : IsTrue d.tells → frame.CrashLeaves d old new
        (λ image. KeepsBehind (needed_units held) (d.files old).log image.log)
    pub says : CommitSays (2 ^ 28) (needed_units held) result
    pub full : 2 ^ 28 < needed_units held → IsLogFull (needed_units held) result
    pub longest : needed_units held ≤ longest_log (laid_files held (d.files old))
    pub idle : needed_units held ≡ 1 → Unwritten d old new
    pub unwritten : IsLogFull (needed_units held) result → Unwritten d old new
    pub reads : ReadsLog d old new
    pub cause : frame.DiskFault d (result ≡ Err DiskFault) old new
