mod Behind
mod Going
mod Labels
mod Lettered
mod Lines
mod Passing
mod Rowed
mod SoFar
mod Steps
mod Telling
pub mod Vocabulary
pub mod laws
