-- The words of clauses, from one place, but those of `MemDisk` and of `Buffered`, whose types stand on these.
pub use Rattle.std.proofs.Common.{refl, ◌∙◌}
pub use Rattle.std.specs.FinMap.{empty, insert}
pub use Rattle.std.specs.List.{list_any}
pub use Rattle.rpm_outside.specs.Calls.{Call, Len, Read, Sync, Write}
pub use Rattle.rpm_outside.specs.Causes.{HasCause, Rose, RoseBy}
pub use Rattle.rpm_outside.specs.Crash.{Elapses, OnlyAfter, RisesOrStays, TornFile, IsUntouched, bytes_for}
pub use Rattle.rpm_outside.specs.Files.{Files, FitsAt, blank, bytes_of, file_of, with_units, unit_at, units_of}
pub use Rattle.rpm_outside.specs.Files.{with_file}
pub use Rattle.rpm_outside.specs.Literal.{IsImage}
pub use Rattle.rpm_outside.specs.MemShelf.{SameReads, ShelfDoes, bytes_in, left_in, paths_of}
pub use Rattle.rpm_outside.specs.MemShelf.{shelf_absences, shelf_failing, shelf_faults, shelf_most, shelf_paths}
pub use Rattle.rpm_outside.specs.MemShelf.{shelf_reads, shelf_rest}
pub use Rattle.rpm_outside.specs.MemSink.{FailsWhereFull, sink_bytes, sink_faults, sink_limit, sink_most, sink_starved}
pub use Rattle.rpm_outside.specs.Past.{Images, ImagesSince, WroteAny, after_step, after_steps, held_files, part_of}
pub use Rattle.rpm_outside.specs.Picks.{mixed_unit, units_of_pick, picked_image, picked_step}
pub use Rattle.rpm_outside.specs.Shelves.{Open, Opens, Paths, ShelfCall, Take, TakesFront, bytes_at}
pub use Rattle.rpm_outside.specs.Sinks.{IsPrefix, GainIs}
pub use Rattle.rpm_outside.specs.Words.{bytes_of_word, unit_of_words, word}
pub use Rattle.rpm_outside.specs.declared.disk.File.{File}
pub use Rattle.rpm_outside.specs.inner.Copies.{HasCopy, HoldCopies, KeepsCopy, SyncsFile, StartsFrom, is_loose}
pub use Rattle.rpm_outside.specs.inner.Copies.{is_loose_after_write, is_loose_after_sync}
pub use Rattle.rpm_outside.specs.laws.History.{as_read_now, since_earlier}
pub use Rattle.rpm_outside.specs.laws.Taken.{begins_refl, begins_trans}
