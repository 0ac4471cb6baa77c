pub mod Keys
pub mod Kinds
pub mod Numbers
pub mod Prelude
pub mod Table
pub mod Value
pub mod Wanted
pub mod inner
