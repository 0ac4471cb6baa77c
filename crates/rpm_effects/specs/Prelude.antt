-- The words of clauses, from one place.
pub use Rattle.rpm_effects.specs.declared.tally.Halt.TheVariants.{NoMemory}
pub use Rattle.rpm_effects.specs.Classes.{IsOfPrint}
pub use Rattle.rpm_effects.specs.Endings.{halt_of_pick, status_of, stop_in, unless_starved, why_of_halt, why_of_load}
pub use Rattle.rpm_effects.specs.Endings.{why_of_open, why_of_recover}
pub use Rattle.rpm_effects.specs.Lines.{Fails}
pub use Rattle.rpm_effects.specs.Texts.{absent_line, at_entry, file_text, header_text, refused_line}
pub use Rattle.rpm_effects.specs.Answers.{PartIs}
pub use Rattle.rpm_effects.specs.Hands.{PutsOut}
pub use Rattle.rpm_effects.specs.Portions.{fails}
pub use Rattle.rpm_effects.specs.Shown.{OutTakes}
pub use Rattle.rpm_effects.specs.Steps.{Bearer, ToOut}
pub use Rattle.rpm_outside.specs.Buffered.{inner}
pub use Rattle.rpm_outside.specs.SinkFrame.{Writes}
pub use Rattle.std.specs.List.{concat}
