pub mod Networks
pub mod Orders
pub mod Prelude
pub mod inner
