-- What the crate's own calls say to each other: nothing that a reader of its public calls has to believe.
pub mod Asking
pub mod Indexed
pub mod Labelled
pub mod Members
pub mod Pieces
pub mod Reaching
pub mod Single
pub mod Steps
pub mod Unclosed
pub mod Within
