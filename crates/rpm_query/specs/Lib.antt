pub mod PackageFiles
pub mod Prelude
pub mod Queries
pub mod Reach
pub mod inner
