-- Of the line that closes a command: what is told of the word that breaks a rule.
use Rattle.std.specs.Prelude.{ℕ, List, []}
use Rattle.rpm_words.specs.declared.fault.WordsKind.{WordsKind}
use Rattle.rpm_words.specs.declared.fault.WordsKind.TheVariants as kind

-- the word that is told: the one that breaks the rule, and none where something is missing
abbrev pub word_told : WordsKind → List ℕ → List ℕ
word_told of word = elim of [ kind.NoMode ↦ [] | kind.MissingArgument ↦ [] | kind.NoMemory ↦ [] | _ ↦ word ]
