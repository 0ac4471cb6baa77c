-- What crates above cite, and what it is proved by.
pub mod Askable
pub mod Peeking
pub mod Printed
pub mod Printing
pub mod Reached
pub mod Verified
