pub mod Answers
pub mod List
pub mod Merging
pub mod Package
pub mod Prelude
pub mod inner
