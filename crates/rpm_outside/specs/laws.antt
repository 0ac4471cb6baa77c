-- What crates above cite, and what it is proved by.
pub mod FileLaws
pub mod History
pub mod Puts
pub mod Taken
