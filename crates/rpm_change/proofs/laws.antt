-- What crates above cite, and what it is proved by.
pub mod Going
pub mod Handing
pub mod Leaving
pub mod LimitLaws
pub mod Owing
pub mod Parts
pub mod ReachLaws
pub mod Reading
pub mod Single
pub mod Stores
pub mod Telling
