-- The words of clauses, from one place.
pub use Rattle.rpm_effects.specs.Steps.{Bearer, ToErr, ToOut, bearer}
pub use Rattle.rpm_effects.specs.Hands.{Hand, HaltHands, PutsErr, PutsOut}
pub use Rattle.rpm_db.specs.State.{Good}
pub use Rattle.rpm_header.specs.Digest.{magic}
pub use Rattle.rpm_outside.specs.Buffered.{inner}
pub use Rattle.rpm_outside.specs.SinkFrame.{Writes}
pub use Rattle.rpm_qfeval.specs.Meaning.{meaning}
pub use Rattle.rpm_select.specs.Picks.{entry_in}
pub use Rattle.rpm_words.specs.Words.{word_at}
pub use Rattle.rpm_effects.specs.Progress.{Anywhere}
pub use Rattle.rpm_effects.specs.Answers.{StepIs, CommandProgress}
pub use Rattle.rpm_command.specs.Asked.{prints_packages}
pub use Rattle.rpm_effects.specs.Classes.{IsOfPrint}
pub use Rattle.rpm_print.specs.Closing.{closing, fault_text, fixed_line, number_line}
pub use Rattle.rpm_print.specs.Closing.{reason_text, rule_text}
pub use Rattle.rpm_print.specs.Closing.{usage_line}
pub use Rattle.rpm_print.specs.inner.Closing.{word_told}
pub use Rattle.rpm_effects.specs.Shown.{ErrTakes, OutTakes, shown_outputs}
pub use Rattle.rpm_print.specs.Printed.{bad_line, printed_step, step_by}
pub use Rattle.rpm_print.specs.Texts.{text_course}
