-- What the crate's own functions say of their steps. Nothing here is needed to read what `read` and `place_of` answer.
pub mod Commands
pub mod Folder
pub mod Spellings
pub mod Steps
