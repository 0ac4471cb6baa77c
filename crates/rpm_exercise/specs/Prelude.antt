-- The words of clauses, from one place.
pub use Rattle.std.specs.Result.{result_err}
pub use Rattle.std.specs.String.{string_bytes}
pub use Rattle.rpm_db.specs.Changes.{change_at}
pub use Rattle.rpm_effects.specs.Progress.{CourseProgress}
pub use Rattle.rpm_exercise.specs.Headers.{numbered_word}
pub use Rattle.rpm_effects.specs.Hands.{Hand}
pub use Rattle.rpm_change.specs.Limits.{LimitsTurn}
pub use Rattle.rpm_db.specs.Database.{store_of}
pub use Rattle.rpm_db.specs.Frame.{Runs, packages_in, state_in}
pub use Rattle.rpm_change.specs.Singles.{HasTarget}
pub use Rattle.rpm_effects.specs.Shown.{EndedOnOut, with_out}
pub use Rattle.rpm_change.specs.Progress.{IsCurrent, ProgressInBoth}
pub use Rattle.rpm_db.specs.Asked.{IsAskable}
pub use Rattle.rpm_db.specs.Changed.{IsReady}
pub use Rattle.rpm_db.specs.Database.{IsNext, holds, is_indexed}
pub use Rattle.rpm_db.specs.Gathering.{IsGathering}
pub use Rattle.rpm_db.specs.Lawful.{Remade}
pub use Rattle.rpm_db.specs.Openings.{units_needed}
pub use Rattle.rpm_db.specs.Reaches.{ReachesMade}
pub use Rattle.rpm_db.specs.Runs.{SameLog}
pub use Rattle.rpm_outside.specs.Frame.{DiskFault}
pub use Rattle.rpm_select.specs.Frame.{HasKeptRows}
pub use Rattle.rpm_select.specs.Picks.{entry_in}
pub use Rattle.rpm_version.specs.Capability.{capability}
pub use Rattle.sha2.specs.Hashers.{Holds256}
pub use Rattle.rpm_exercise.specs.Endings.{IsOfQuestion, IsRefused, OnceBegun, HoldsAfterRebuild}
pub use Rattle.rpm_exercise.specs.Exercised.{capability_line, capability_lines, capability_named, count_line}
pub use Rattle.rpm_exercise.specs.Exercised.{digest_text, exercise, exported_bytes, IsFound, picked_count, summary}
pub use Rattle.rpm_exercise.specs.Ready.{ExerciseQuestion, GathersThrough, IsStop, ChangesProgress}
pub use Rattle.rpm_exercise.specs.Rounds.{changes, changes_after, made_blob, round_changes, round_turn}
pub use Rattle.rpm_exercise.specs.Headers.{file_items, generated_items, identity_items, provided_items, required_items}
pub use Rattle.rpm_exercise.specs.Headers.{version}
pub use Rattle.rpm_header.specs.Build.{IsText}
pub use Rattle.rpm_header.specs.Header.{header, max_data, max_entries}
pub use Rattle.rpm_header.specs.Laid.{data_of, laid_out}
