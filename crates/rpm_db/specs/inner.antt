-- What stays within the crate.
pub mod Both
pub mod Edits
pub mod Faults
pub mod Filling
pub mod Making
pub mod Order
pub mod PackageChanges
pub mod Verified
pub mod Writes
