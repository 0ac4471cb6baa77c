-- What the functions below `run` say.
pub mod Words
