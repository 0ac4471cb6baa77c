-- The numbers of a unit that was made of four.
use Rattle.std.proofs.Common.{◌≡◌, ℕ, ◌^◌, ◌<◌, length, refl}
use Rattle.std.proofs.lemmas.Nat.{from_le_bytes-to_le_bytes_4}
use Rattle.rpm_outside.specs.Words.{word, bytes_of_word, unit_of_words}

module _ (a b c d : ℕ) where
  pub length-unit : length (unit_of_words a b c d) ≡ 16
  unfolding unit_of_words bytes_of_word
  length-unit = refl

  pub word_0 : a < 2 ^ 32 → word 0 (unit_of_words a b c d) ≡ a
  unfolding word unit_of_words bytes_of_word
  word_0 lt = from_le_bytes-to_le_bytes_4 a lt

  pub word_1 : b < 2 ^ 32 → word 1 (unit_of_words a b c d) ≡ b
  unfolding word unit_of_words bytes_of_word
  word_1 lt = from_le_bytes-to_le_bytes_4 b lt

  pub word_2 : c < 2 ^ 32 → word 2 (unit_of_words a b c d) ≡ c
  unfolding word unit_of_words bytes_of_word
  word_2 lt = from_le_bytes-to_le_bytes_4 c lt

  pub word_3 : d < 2 ^ 32 → word 3 (unit_of_words a b c d) ≡ d
  unfolding word unit_of_words bytes_of_word
  word_3 lt = from_le_bytes-to_le_bytes_4 d lt
