-- What is true at each step of the crate's own calls: nothing that a reader of its public calls has to believe.
pub mod Listings
pub mod Rows
pub mod Searches
