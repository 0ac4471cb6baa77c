-- Lemmas, for proofs alone: no clause is read by them.
pub mod Copies
