-- What private functions say: no contract of another crate rests on it.
pub mod Cuts
