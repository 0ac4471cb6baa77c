-- What crates above cite, and what it is proved by.
pub mod Brokens
pub mod ByEnding
pub mod Emptied
pub mod Limited
pub mod Outcomes
pub mod Recovered
pub mod Standing
pub mod Starved
pub mod Unmade
pub mod Works
