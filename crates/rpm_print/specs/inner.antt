-- What the crate's own calls say to each other: nothing that a reader of its public calls has to believe.
pub mod Closing
