pub mod Answers
pub mod Asked
pub mod Prelude
pub mod Tasks
pub mod Texts
pub mod inner
