pub mod Requests
pub mod Keyed
pub mod Theorem
pub mod Prelude
pub mod inner
