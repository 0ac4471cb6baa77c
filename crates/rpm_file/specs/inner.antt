-- Invariants and steps of the crate's own calls: nothing that a reader of its public calls must believe.
pub mod Chain
pub mod Filling
pub mod Joining
pub mod Parts
