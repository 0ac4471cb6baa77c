mod Ahead
mod Chained
mod ExerciseFits
mod Fitting
mod Greatest
mod Histories
mod Lined
mod Numbering
pub mod Vocabulary
