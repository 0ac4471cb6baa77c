-- What the fields of a set keep, and what the crate's own calls say to each other.
pub mod Places
pub mod Sound
