-- The numbers of a unit that was made of four, as one set of laws.
use Rattle.std.specs.Prelude.{◌≡◌, ℕ}
use Rattle.std.proofs.Common.{refl}
use Rattle.rpm_outside.specs.Words.{unit_of_words}
use Rattle.rpm_pkgdb.specs.Framing.{next_unit}
use Rattle.rpm_pkgdb.proofs.Vocabulary.{bytes_of_word, word_0, word_1, word_2, word_3}

pub ruleset unit_words = (word_0, word_1, word_2, word_3)

pub next_words : (n : ℕ) → unit_of_words n 0 0 0 ≡ next_unit n
unfolding next_unit unit_of_words bytes_of_word
next_words n = refl

pub ruleset next_unit_words = (next_words, word_0)
