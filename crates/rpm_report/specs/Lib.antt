pub mod FileReport
pub mod Labels
pub mod Prelude
pub mod Reports
pub mod Requirements
pub mod inner
