-- What crates above cite, and what it is proved by.
pub mod Among
pub mod Costing
pub mod Keyed
pub mod Rising
