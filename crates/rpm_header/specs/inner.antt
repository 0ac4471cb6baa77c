-- What private fields keep, and lemmas that other crates' proofs use: no contract's meaning rests on them alone.
pub mod Checked
pub mod Packed
pub mod Placed
pub mod Splits
pub mod Zeros
