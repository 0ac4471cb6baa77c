-- What crates above cite, and what it is proved by.
pub mod Answering
pub mod Rising
pub mod Sums
pub mod Unbroken
