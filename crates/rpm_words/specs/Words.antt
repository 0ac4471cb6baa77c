-- What stands on a command line, word by word.
use Rattle.std.specs.Prelude.{ℕ, List, unwrap_or, drop, codes}
use Rattle.std.specs.List.{slice_get}
use Rattle.rpm_words.specs.declared.words.Span.{Span}

-- the word at a place, or the empty text
abbrev pub word_at : List (List ℕ) → ℕ → List ℕ
word_at words i = unwrap_or (slice_get words i) (codes "")

-- the bytes of a word from a place on
abbrev pub bytes_from : List (List ℕ) → Span → List ℕ
bytes_from words span = drop span.from (word_at words span.word)
