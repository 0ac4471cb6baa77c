-- The words of proofs, from one place.
pub use Rattle.rpm_words.specs.Number.{number}
pub use Rattle.rpm_words.specs.Words.{word_at}
pub use Rattle.std.specs.List.{filter_map}
