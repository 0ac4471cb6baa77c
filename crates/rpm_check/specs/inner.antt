-- What the crate's own calls say to each other: nothing that a reader of its public calls has to believe.
pub mod Ends
pub mod Faults
pub mod GiverMemos
pub mod Headers
pub mod Kinds
pub mod Memos
pub mod Nodes
pub mod Offers
pub mod Parts
pub mod Rounds
pub mod Runs
