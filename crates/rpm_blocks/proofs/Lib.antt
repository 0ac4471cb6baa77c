pub mod Cuts
pub mod Edits
pub mod Fits
pub mod Listed
pub mod Parts
pub mod Same
pub mod Vocabulary
pub mod laws
