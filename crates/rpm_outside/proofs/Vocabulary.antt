-- The words of proofs, from one place.
pub use Rattle.rpm_outside.specs.Buffered.{held_bytes, inner}
pub use Rattle.rpm_outside.specs.Calls.{Call, Len, Read, Sync, Write}
pub use Rattle.rpm_outside.specs.Causes.{Rose}
pub use Rattle.rpm_outside.specs.Crash.{Elapses, OnlyAfter, RisesOrStays, Torn, TornFile}
pub use Rattle.rpm_outside.specs.Files.{bytes_of, cases_file, cut_up, file_of, Files, unit_at, Units, units_of, with_file}
unfoldable pub use Rattle.rpm_outside.specs.Files.{blank, with_units}
pub use Rattle.rpm_outside.specs.Logs.{Closed, Malformed, Open, reopened_files}
unfoldable pub use Rattle.rpm_outside.specs.Logs.{entry_at, heads, is_commit_record, is_log_head, log_state}
pub use Rattle.rpm_outside.specs.MemDisk.{DiskDid, FailsWhereNamed, is_named_call, mem_calls, mem_failing, mem_faults, mem_files, mem_first, mem_starved}
pub use Rattle.rpm_outside.specs.MemShelf.{bytes_in, entry_of_item, left_in, paths_of, rest_of_item}
pub use Rattle.rpm_outside.specs.Past.{after_step, after_steps, held_files, Images, ImagesSince, LeftByStep, LeftBySteps, part_of, StepsTo, WroteAny}
pub use Rattle.rpm_outside.specs.Past.{WroteOnce}
pub use Rattle.rpm_outside.specs.Picks.{mixed_unit, picked_image, picked_step, takes_new}
unfoldable pub use Rattle.rpm_outside.specs.Picks.{units_of_pick}
pub use Rattle.rpm_outside.specs.Shelves.{bytes_at, TakesFront}
pub use Rattle.rpm_outside.specs.Sinks.{IsPrefix, GainIs}
unfoldable pub use Rattle.rpm_outside.specs.Words.{word}
pub use Rattle.rpm_outside.specs.declared.copies.Copies.{Copies}
pub use Rattle.rpm_outside.specs.declared.copies.Copy.{Copy}
pub use Rattle.rpm_outside.specs.declared.disk.File.{File}
pub use Rattle.rpm_outside.specs.declared.disk.File.TheVariants.{Idx, Log, Pkg}
pub use Rattle.rpm_outside.specs.declared.mem_disk.MemDisk.{MemDisk}
pub use Rattle.rpm_outside.specs.declared.mem_shelf.Item.{Item}
pub use Rattle.rpm_outside.specs.declared.steps.Pick.{Pick}
pub use Rattle.rpm_outside.specs.declared.steps.Pick.TheVariants.{Mixed, New, Old}
pub use Rattle.rpm_outside.specs.declared.steps.Step.{Step}
pub use Rattle.rpm_outside.specs.declared.steps.Step.TheVariants.{Synced, Wrote}
pub use Rattle.rpm_outside.specs.inner.Copies.{AddsCopy, HoldCopies, is_loose, IsCopy, is_loose_after_write, NoneLoose, SyncsFile, StartsFrom}
pub use Rattle.rpm_outside.specs.inner.Copies.{is_loose_after_sync}
pub use Rattle.rpm_outside.proofs.laws.Cuts.{bytes_of_more, length-cut_up, units_of-bytes_of}
pub use Rattle.rpm_outside.specs.laws.FileLaws.{file_of-with, other_file, same_files, with_itself}
pub use Rattle.rpm_outside.proofs.laws.Flushed.{flushed, handed, stopped}
pub use Rattle.rpm_outside.specs.laws.History.{after_steps-push, as_read_now, elapses_push, elapses_same, follows_none, follows_write, now_images, push_left}
pub use Rattle.rpm_outside.specs.laws.History.{sync_step, torn_file_none, torn_file_whole, torn_none, torn_whole}
pub use Rattle.rpm_outside.proofs.ImageLaws.{images_are}
pub use Rattle.rpm_outside.proofs.laws.PutLaws.{same_units}
pub use Rattle.rpm_outside.specs.laws.Puts.{length-put, put_after, put_before, put_cases, put_inside}
pub use Rattle.rpm_outside.specs.laws.Taken.{gained_more, taken_more}
pub use Rattle.std.specs.Cmp.Lexicographic.{slice_cmp}
pub use Rattle.std.specs.FinMap.{find, get-from_entries}
pub use Rattle.std.specs.List.{list_any, range_with_len}
pub use Rattle.std.specs.Option.{option_map}
pub use Rattle.std.specs.Ordering.{nat_cmp}
pub use Rattle.std.specs.Str.{bytes_eq}
