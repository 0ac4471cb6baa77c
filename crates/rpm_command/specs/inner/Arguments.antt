-- The arguments of a command, as the functions that read them say.
use Rattle.std.specs.Prelude.{ℕ, List, map, unwrap_or, slice_index}
use Rattle.std.specs.List.{filter_map}
use Rattle.rpm_words.specs.Ask.{AskParts}
use Rattle.rpm_words.specs.Number.{number}
use Rattle.rpm_words.specs.Words.{word_at}

-- the texts of the arguments
abbrev pub texts_asked : List (List ℕ) → AskParts → List (List ℕ)
texts_asked words a = map (word_at words) a.arguments

-- the number that an argument is
abbrev pub argument_number : List (List ℕ) → AskParts → ℕ → ℕ
argument_number words a k = unwrap_or (number (word_at words (slice_index a.arguments k))) 0

-- the numbers among the arguments
abbrev pub numbers_asked : List (List ℕ) → AskParts → List ℕ
numbers_asked words a = filter_map (λ w. number (word_at words w)) a.arguments
