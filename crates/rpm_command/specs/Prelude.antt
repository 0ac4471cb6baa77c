-- The words of clauses, from one place.
pub use Rattle.std.specs.List.{filter_map}
pub use Rattle.rpm_words.specs.Ask.{HasNumbers, IsCommandSound, ask}
pub use Rattle.rpm_words.specs.Number.{number}
pub use Rattle.rpm_words.specs.Words.{word_at}
pub use Rattle.rpm_command.specs.Answers.{Undone}
pub use Rattle.rpm_command.specs.Asked.{KindIs, asks_format, format_text, needs_no_index}
pub use Rattle.std.specs.Prelude.{slice_index}
pub use Rattle.rpm_command.specs.Tasks.{Replacing, task_parts}
pub use Rattle.rpm_command.specs.inner.Arguments.{argument_number, numbers_asked, texts_asked}
