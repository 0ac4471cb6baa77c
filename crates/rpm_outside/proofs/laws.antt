-- What crates above cite, and what it is proved by.
pub mod Browsing
pub mod ChangedLaws
pub mod Changing
pub mod Cuts
pub mod EntryLaws
pub mod Flushed
pub mod Leaves
pub mod LogLaws
pub mod LogRules
pub mod LogWriting
pub mod Looking
pub mod Moments
pub mod PutLaws
pub mod PutMore
pub mod UnitLaws
pub mod Upto
