pub mod Vocabulary
pub mod laws
