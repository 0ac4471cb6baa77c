-- What crates above cite, and what it is proved by.
pub mod BlobLaws
pub mod Runs
