-- What the crate's own functions keep and say of their steps: nothing here is needed to read what `print` answers.
pub mod Columns
pub mod Pieces
pub mod Proper
pub mod Reached
pub mod Ready
