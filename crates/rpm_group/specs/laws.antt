-- What crates above cite, and what it is proved by.
pub mod Below
pub mod LogReads
