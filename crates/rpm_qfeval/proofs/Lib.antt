pub mod Steps
pub mod Ahead
pub mod Counts
mod Fixtures
pub mod Walked
pub mod ProperParts
pub mod StoredTexts
pub mod Plain
pub mod Moments
pub mod Calendar
pub mod CivilLaw
pub mod Classes
pub mod DateLaw
pub mod Lists
pub mod Glyphs
pub mod Encodings
pub mod NotNumbers
pub mod Vocabulary
