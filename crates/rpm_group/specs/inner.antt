-- Invariants and steps of the crate's own calls: nothing that a reader of its public calls must believe.
pub mod Holding
pub mod LogReadings
pub mod HeldUnits
pub mod Leavings
pub mod Logged
pub mod Over
pub mod Entries
