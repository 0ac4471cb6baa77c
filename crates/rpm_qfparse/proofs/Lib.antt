pub mod Drafts
pub mod Exits
mod Fixtures
pub mod Law
pub mod Pieces
pub mod Proper
pub mod ProperTags
pub mod Rows
pub mod Shrinks
pub mod Smaller
pub mod Top
pub mod Unique
pub mod Widths
pub mod Within
pub mod Vocabulary
