-- What the code gathers on its way.
pub mod Alike
pub mod Gathered
pub mod Parts
