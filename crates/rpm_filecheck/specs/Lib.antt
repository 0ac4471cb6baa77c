pub mod Conflicts
pub mod Files
pub mod Frame
pub mod Owners
pub mod Prelude
pub mod inner
