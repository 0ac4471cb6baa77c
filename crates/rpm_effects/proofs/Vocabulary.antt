-- The words of proofs, from one place.
pub use Rattle.rpm_db.specs.State.{State}
pub use Rattle.rpm_effects.specs.Progress.{Done, CourseProgress, outputs}
pub use Rattle.rpm_effects.specs.Steps.{Bearer, course_of_failure, ToErr}
pub use Rattle.rpm_effects.specs.Texts.{header_text}
unfoldable pub use Rattle.rpm_effects.specs.Texts.{file_text}
pub use Rattle.rpm_outside.specs.Sinks.{GainIs, GainedPart}
pub use Rattle.rpm_outside.specs.laws.Taken.{gained_none}
pub use Rattle.rpm_outside.proofs.laws.Flushed.{flushed, stopped}
pub use Rattle.rpm_outside.proofs.laws.Upto.{Upto, upto_more, upto_stop}
pub use Rattle.std.specs.List.{concat}
