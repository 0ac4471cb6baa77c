-- What crates above cite, and what it is proved by.
pub mod Closing
pub mod Courses
pub mod Failing
pub mod Halts
pub mod Joins
pub mod Parts
pub mod Reaching
pub mod Stopping
