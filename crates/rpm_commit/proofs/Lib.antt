mod Coursed
mod Ends
mod FileReach
mod Fitting
mod Halting
mod Transactions
pub mod Vocabulary
pub mod laws
