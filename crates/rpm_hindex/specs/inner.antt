-- What inner calls read, keep and make.
pub mod Changes
pub mod Drafts
pub mod Finds
pub mod Making
pub mod Ongoing
pub mod Packed
pub mod Records
pub mod Spots
pub mod Starts
