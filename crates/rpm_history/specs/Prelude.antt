-- The words of clauses, from one place.
pub use Rattle.rpm_db.specs.Changes.{next}
pub use Rattle.rpm_db.specs.State.{State}
pub use Rattle.rpm_commit.specs.Changing.{AllRowsFit, HasState, RowsFit}
pub use Rattle.rpm_commit.specs.Lawful.{AreLawfulDatabases}
pub use Rattle.rpm_history.specs.Given.{IsAhead, RiseWithin}
pub use Rattle.rpm_history.specs.History.{AllStand, Cuts, FromOneOf, LeadsByLines, RepresentsState, TellsLines}
pub use Rattle.rpm_history.specs.History.{calls_of}
pub use Rattle.rpm_history.specs.Lines.{InTurn, InTurnBefore, LineIs, LineStays, between}
pub use Rattle.rpm_outside.specs.Frame.{CrashLeaves, images}
