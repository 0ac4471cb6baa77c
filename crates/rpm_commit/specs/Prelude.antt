-- The words of clauses, from one place.
pub use Rattle.rpm_db.specs.Database.{is_blank_database, is_indexed}
pub use Rattle.rpm_db.specs.Runs.{SameLog}
pub use Rattle.rpm_group.specs.Layers.{laid_files}
pub use Rattle.rpm_group.specs.Overlay.{overlay_below, overlay_held, overlay_starved}
pub use Rattle.rpm_outside.specs.Causes.{Rose}
pub use Rattle.rpm_outside.specs.Changes.{IsDurable}
pub use Rattle.rpm_outside.specs.Logs.{reopened_files, without_log}
pub use Rattle.rpm_pkgdb.specs.Store.{store}
pub use Rattle.rpm_commit.specs.Changing.{EmptyBy}
pub use Rattle.rpm_commit.specs.Answers.{AnswersChange}
pub use Rattle.rpm_commit.specs.Limits.{LogIs}
pub use Rattle.rpm_commit.specs.Run.{ran}
pub use Rattle.rpm_command.specs.Tasks.{IsCountable, task_parts}
pub use Rattle.rpm_commit.specs.Tasks.{changes_index, is_anew, needs_none, reads_shelf, task_course}
pub use Rattle.rpm_commit.specs.Working.{TransactionEnding, IsShut, OpensBy, done_why, ended_as, exercise_ended}
pub use Rattle.rpm_commit.specs.Stages.{BeginsOn, KeepsAlways, OpensOn, Streams, WorksOn}
pub use Rattle.rpm_effects.specs.Classes.{IsOfOpening, IsOutside, is_done, is_halt, is_of_streams, is_of_words}
pub use Rattle.rpm_outside.specs.Frame.{DiskFault, images}
pub use Rattle.rpm_db.specs.Frame.{Runs, Serving}
pub use Rattle.rpm_effects.specs.Shown.{shown_outputs}
