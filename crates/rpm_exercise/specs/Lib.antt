pub mod Endings
pub mod Exercised
pub mod Headers
pub mod Ready
pub mod Rounds
pub mod Prelude
