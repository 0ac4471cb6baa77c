pub mod Answers
pub mod Edges
pub mod Frame
pub mod Unmet
pub mod inner
pub mod Prelude
