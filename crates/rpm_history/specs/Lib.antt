pub mod Given
pub mod History
pub mod Lines
pub mod Prelude
