mod Arguments
mod Begun
mod Closed
mod Completed
mod Requests
mod Endings
mod Faults
mod Loading
mod Numbered
mod OpeningLaws
mod Page
mod Recovered
mod Undone
mod Unloaded
mod Unrecovered
mod Wanting
pub mod Vocabulary
