-- The words of proofs, from one place.
pub use Rattle.rpm_group.specs.Counts.{is_held, log_units}
unfoldable pub use Rattle.rpm_group.specs.Counts.{begins_run, count_below}
pub use Rattle.rpm_group.specs.Transactions.{BeforeOrAfter, KeepsBehind, longest_log, needed_units, runs_of, units_of_log}
pub use Rattle.rpm_group.specs.Held.{IsHeldBelow, in_marked, in_page, in_paged, is_marked, Leaf, page_at, page_in, Table, unit_in, unit_over}
unfoldable pub use Rattle.rpm_group.specs.Held.{held_at, laid_units}
pub use Rattle.rpm_group.specs.Layers.{file_of-laid, laid_file, laid_files, pages_of}
pub use Rattle.rpm_group.specs.Loads.{IsSound}
pub use Rattle.rpm_group.specs.laws.LogReads.{nothing_none, nothing_then, reads_none, reads_then, ReadsLog, ReadsNothing}
pub use Rattle.rpm_group.specs.Orders.{AreRuns, HeadsEndInZeros, IsLogged}
pub use Rattle.rpm_group.specs.Readings.{entries_of, IsOpen}
pub use Rattle.rpm_group.specs.Crashes.{ReopensAs, ReopensAsOneOf}
pub use Rattle.rpm_group.specs.Spared.{CountsRead, spared_of}
pub use Rattle.rpm_group.specs.declared.transaction.Tail.{Tail}
pub use Rattle.rpm_group.specs.declared.layers.Layers.{Layers}
pub use Rattle.rpm_group.specs.declared.log.Head.{Head}
pub use Rattle.rpm_group.specs.declared.log.Reading.{Reading}
pub use Rattle.rpm_group.specs.declared.log.Reading.TheVariants.{Opened}
pub use Rattle.rpm_group.specs.declared.page.Page.{Page}
pub use Rattle.rpm_group.specs.declared.pages.Pages.{Pages}
pub use Rattle.rpm_group.specs.declared.spared.Spared.{Spared}
pub use Rattle.rpm_group.specs.inner.Entries.{IsTransaction, IsTail, with_held}
pub use Rattle.rpm_group.specs.inner.HeldUnits.{AreHeld}
unfoldable pub use Rattle.rpm_group.specs.inner.HeldUnits.{units_held}
pub use Rattle.rpm_group.specs.inner.Holding.{AreThere, HoldsUnits, KeepsPages, LaysOver, LeafKeeps, LeafSame, LeafWrote, SameHeld, SamePages}
pub use Rattle.rpm_group.specs.inner.Leavings.{WasWithin}
pub use Rattle.rpm_group.specs.inner.LogReadings.{CommitRecordSays, HeadIs, heads_behind, HeadSays, IsHead, LogSays}
pub use Rattle.rpm_group.specs.inner.Logged.{CoversHeld, EntriesOfTable, run_entry}
pub use Rattle.rpm_group.specs.inner.Over.{ReadsOver}
pub use Rattle.rpm_outside.specs.Causes.{RoseBy}
pub use Rattle.rpm_outside.specs.Changed.{IsChangedInRange, CrashChanges, WasChanged}
pub use Rattle.rpm_outside.specs.Crash.{bytes_for, Elapses, OnlyAfter, TornFile}
pub use Rattle.rpm_outside.specs.Leaves.{CrashLeavesOnly}
pub use Rattle.rpm_outside.specs.Entries.{Covers, HasUnit, Within}
pub use Rattle.rpm_outside.specs.Files.{cases_file, file_of, Files, unit_at, Units, units_of, with_file}
unfoldable pub use Rattle.rpm_outside.specs.Files.{blank, with_units}
pub use Rattle.rpm_outside.specs.LogWrites.{EntriesIn, EntryIn, IsCommitRecord, number_of_file}
pub use Rattle.rpm_outside.specs.Logs.{before, Closed, Entry, is_blank_unit, LogState, Malformed, Open, reopened_files, without_log, with_entries, with_entry}
unfoldable pub use Rattle.rpm_outside.specs.Logs.{entry_at, heads, is_commit_record, is_log_head, log_state}
pub use Rattle.rpm_outside.specs.Looks.{OnlyReadsFile}
pub use Rattle.rpm_outside.specs.Words.{unit_of_words}
unfoldable pub use Rattle.rpm_outside.specs.Words.{word}
pub use Rattle.rpm_outside.specs.declared.disk.File.{File}
pub use Rattle.rpm_outside.specs.declared.disk.File.TheVariants.{Idx, Log, Pkg}
pub use Rattle.rpm_outside.proofs.laws.ChangedLaws.{changed_leaves_more, changed_leaves_then, changed_more, changed_none, changed_then, leaves_none}
pub use Rattle.rpm_outside.proofs.laws.ChangedLaws.{torn_changed, write_leaves}
pub use Rattle.rpm_outside.proofs.laws.Cuts.{cut_up_one, length-cut_up, unit_at-cut_up}
pub use Rattle.rpm_outside.proofs.laws.EntryLaws.{within_changed, within_none, within_then}
pub use Rattle.rpm_outside.specs.laws.FileLaws.{file_of-with, other_file, with_file-with_file, with_itself}
pub use Rattle.rpm_outside.specs.laws.History.{torn_file_none, torn_file_whole}
pub use Rattle.rpm_outside.proofs.laws.Leaves.{changed_after_look, sync_leaves, then_back, then_look}
pub use Rattle.rpm_outside.proofs.laws.LogLaws.{blank_closed, closing, entries_done, entries_log, first_unit, heads_not_log, log_not_log, NotLog}
pub use Rattle.rpm_outside.proofs.laws.LogLaws.{reopened_closed, reopened_open, reopened_within, torn_first, unlogged_entries, within_log}
pub use Rattle.rpm_outside.proofs.laws.LogRules.{log_after, after-open, after-push, after-wrong, closed_blank, entry_units, commit_record_last}
pub use Rattle.rpm_outside.proofs.laws.LogRules.{commit_record_right, commit_record_wrong}
pub use Rattle.rpm_outside.proofs.laws.LogRules.{head_parts, head_past, heads_done, heads_more, heads_right, heads_wrong, none_closed}
pub use Rattle.rpm_outside.proofs.laws.LogWriting.{entries_end, entries_kept, entries_long, entries_push, entries_then, opened_is, word_full}
pub use Rattle.rpm_outside.proofs.laws.Looking.{looks_at_none, looks_at_then, read_none}
pub use Rattle.rpm_outside.proofs.laws.Moments.{leaves_then, leaves_weaker, one_more, started}
pub use Rattle.rpm_outside.proofs.laws.PutLaws.{put_split, same_units}
pub use Rattle.rpm_outside.proofs.laws.PutMore.{put_some, put_some_append, put_some_is}
pub use Rattle.rpm_outside.specs.laws.Puts.{length-put, put_after, put_before, put_inside}
pub use Rattle.rpm_outside.proofs.laws.UnitLaws.{length-unit, word_0, word_1, word_2, word_3}
pub use Rattle.std.specs.declared.alloc.Global.{Global}
