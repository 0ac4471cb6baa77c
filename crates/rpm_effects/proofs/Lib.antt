mod Joins
mod Told
mod Vocabulary
pub mod laws
