mod Filed
mod Looked
mod Nexts
mod Picking
mod Questions
mod Turns
pub mod Vocabulary
pub mod laws
