-- The words of clauses, from one place.
pub use Rattle.rpm_db.specs.Changed.{IsReady}
pub use Rattle.rpm_db.specs.Changes.{Erase}
pub use Rattle.rpm_db.specs.Database.{holds, is_indexed}
pub use Rattle.rpm_db.specs.Frame.{Runs, state_in}
pub use Rattle.rpm_db.specs.Database.{store_of}
pub use Rattle.rpm_db.specs.Gathering.{IsGathering}
pub use Rattle.rpm_db.specs.Room.{RoomBecomes}
pub use Rattle.rpm_db.specs.State.{Bad, Package}
pub use Rattle.rpm_db.specs.Runs.{SameLog}
pub use Rattle.rpm_file.specs.List.{list_head}
pub use Rattle.rpm_file.specs.Package.{package_header, read_again}
pub use Rattle.rpm_header.specs.Header.{header}
pub use Rattle.rpm_outside.specs.Browses.{bytes_left}
pub use Rattle.rpm_outside.specs.Frame.{DiskFault}
pub use Rattle.rpm_outside.specs.Shelves.{bytes_at}
pub use Rattle.rpm_change.specs.Adding.{GivesInstalled, IsOfPutting, add_files, as_installed}
pub use Rattle.rpm_db.specs.Changes.{change_at}
pub use Rattle.rpm_change.specs.Adding.{put_file, replace}
pub use Rattle.rpm_change.specs.Erasing.{IsOfErasing, erase, missing_line}
pub use Rattle.rpm_effects.specs.Hands.{Hand, KeepsShelf}
pub use Rattle.rpm_change.specs.Importing.{import_list}
pub use Rattle.rpm_change.specs.laws.Courses.{dropped_course, erase_one, list_course}
pub use Rattle.rpm_change.specs.Limits.{MeetsLimit, limit_of_command, next_stores}
pub use Rattle.rpm_effects.specs.Lines.{Fails}
pub use Rattle.rpm_effects.specs.Progress.{halt_of}
pub use Rattle.rpm_change.specs.Halting.{IsHalting}
pub use Rattle.rpm_change.specs.Reaches.{ChangesReachAnew}
pub use Rattle.rpm_change.specs.Rebuilding.{IsOfRebuilding, dropped_line, rebuild}
pub use Rattle.rpm_change.specs.Singles.{GathersOne, HasTarget}
pub use Rattle.rpm_effects.specs.Texts.{header_text}
pub use Rattle.rpm_change.specs.Places.{list_text, place_line}
pub use Rattle.rpm_change.specs.Turns.{IsOfHeaders, IsOfImporting, ListEnd, HaltOfList, tally_of, turn, turn_found}
pub use Rattle.rpm_effects.specs.Shown.{EndedOnErr, EndedOnOut}
pub use Rattle.rpm_change.specs.Progress.{IsCurrent, ProgressInBoth, ProgressOwing}
