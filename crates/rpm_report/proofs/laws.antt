-- What crates above cite, and what it is proved by.
pub mod Checked
pub mod Reporting
