-- What the crate's own functions say of their steps, and lemmas on trees: nothing here is needed to read what `parse`
-- answers.
pub mod Bare
pub mod Coding
pub mod Draft
pub mod Steps
