-- The words of clauses, from one place. `Pages` imports its own, since these stand on it.
pub use Rattle.rpm_group.specs.laws.Below.{KeepsBelow, keeps_refl, keeps_trans}
pub use Rattle.rpm_group.specs.Commits.{CommitSays, IsCommit, IsLogFull}
pub use Rattle.rpm_group.specs.Counts.{IsNextPlace, begins_run, count_below, is_held, log_units}
pub use Rattle.rpm_group.specs.Frame.{OnlyReadsLog, OnlyReadsLogOr, ReadsLog, ReadsNothing, Unwritten}
pub use Rattle.rpm_group.specs.Transactions.{BeforeOrAfter, KeepsBehind, held_units, needed_units, runs_of}
pub use Rattle.rpm_group.specs.Transactions.{units_of_log}
pub use Rattle.rpm_group.specs.Held.{held_at, in_marked, in_page, is_marked, laid_units, page_at, page_in, unit_in}
pub use Rattle.rpm_group.specs.Layers.{laid_files, pages_of}
pub use Rattle.rpm_group.specs.Loaded.{IsDiskFault, IsLoaded, LoadedSays, disk_after}
pub use Rattle.rpm_group.specs.Loads.{IsOutsideLog, LoadSays}
pub use Rattle.rpm_group.specs.Orders.{HeadsEndInZeros, IsLogged}
pub use Rattle.rpm_group.specs.Overlay.{IsOver, StarvesOrHolds, overlay_below, overlay_held, overlay_read}
pub use Rattle.rpm_group.specs.Overlay.{overlay_starved}
pub use Rattle.rpm_group.specs.Readings.{IsOpen, entries_of}
pub use Rattle.rpm_group.specs.Crashes.{RecoverKeeps, RecoverSays, ReopensAs, ReopensAsOneOf}
pub use Rattle.rpm_group.specs.Spared.{CountsRead, spared_of}
pub use Rattle.rpm_group.specs.inner.Entries.{IsTransaction, IsTail, with_held}
pub use Rattle.rpm_group.specs.inner.HeldUnits.{AreHeld, units_held}
pub use Rattle.rpm_group.specs.inner.Holding.{AreThere, HoldsUnits, KeepsPages, LaysOver, LeafKeeps, LeafSame}
pub use Rattle.rpm_group.specs.inner.Holding.{LeafWrote, PageWrote, SameHeld, SamePages}
pub use Rattle.rpm_group.specs.inner.Leavings.{WasWithin}
pub use Rattle.rpm_group.specs.inner.LogReadings.{CommitRecordSays, HeadSays, HeadsSay, IsHead, LogSays, heads_behind}
pub use Rattle.rpm_group.specs.inner.Logged.{CoversHeld, EntriesOfTable}
pub use Rattle.rpm_group.specs.inner.Over.{ReadsOver}
pub use Rattle.rpm_outside.specs.Causes.{HasCauseAt, RoseBy}
pub use Rattle.rpm_outside.specs.Changed.{IsChangedInRange}
pub use Rattle.rpm_outside.specs.Changes.{AreDurable, IsDurable}
pub use Rattle.rpm_outside.specs.Crash.{IsUntouched, bytes_for}
pub use Rattle.rpm_outside.specs.Entries.{Within}
pub use Rattle.rpm_outside.specs.Files.{Files, FitsAt, Units, file_of, with_units, unit_at, units_of, with_file}
pub use Rattle.rpm_outside.specs.Frame.{DiskFault, CrashChanges, CrashLeaves, OnlyReadsFile, ReadsOnly, ReadsAt}
pub use Rattle.rpm_outside.specs.Frame.{ReadsAtOr, images}
pub use Rattle.rpm_outside.specs.LogWrites.{EntriesIn, number_of_file}
pub use Rattle.rpm_outside.specs.Logs.{Closed, Entry, Open, is_blank_unit, is_commit_record, is_log_head, log_state}
pub use Rattle.rpm_outside.specs.Logs.{reopened_files, without_log, with_entries}
pub use Rattle.rpm_outside.specs.Words.{unit_of_words, word}
pub use Rattle.rpm_outside.specs.declared.disk.File.{File}
pub use Rattle.rpm_outside.specs.declared.disk.File.TheVariants.{Log}
