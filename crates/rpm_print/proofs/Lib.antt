mod Asking
mod Defaults
mod Fixtures
pub mod Vocabulary
pub mod laws
