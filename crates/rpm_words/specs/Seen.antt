-- What the options of a command line come to.
use Rattle.std.specs.Prelude.{ℕ, List, Option, Some, None, Bool, true, false, drop}
use Rattle.std.specs.List.{filter_map, last_or, list_any, slice_get}
use Rattle.rpm_words.specs.declared.switch.Command.TheVariants.{Exercise}
use Rattle.rpm_words.specs.declared.switch.Switch.TheVariants.{Mode, Lists, Format, After, Noindex, Nofiles}
use Rattle.rpm_words.specs.declared.token.Token.{Token}
use Rattle.rpm_words.specs.declared.token.Said.TheVariants.{Sets, Gives}
use Rattle.rpm_words.specs.declared.seen.Printed.{Printed}
use Rattle.rpm_words.specs.declared.seen.Printed.TheVariants.{Files, By}
use Rattle.rpm_words.specs.declared.seen.Seen.{Seen}
use Rattle.rpm_words.specs.Words.{word_at}
use Rattle.rpm_words.specs.Number.{number, exercise_number}
use Rattle.rpm_words.specs.Command.{command_of, chosen_of}

-- what a token lets a query print
abbrev pub printed_in : Token → Option Printed
printed_in token = elim (token.said) [
  | Sets Lists ↦ Some Files
  | Gives Format from ↦ Some (By (record { word = token.word; from = from }))
  | others ↦ None
]

-- the number of `--after`
abbrev pub after_in : List (List ℕ) → Token → Option ℕ
after_in words token =
    elim (token.said) [ Gives After from ↦ number (drop from (word_at words token.word)) | others ↦ None ]

-- the number of `--exercise`
abbrev pub exercise_in : List (List ℕ) → Token → Option ℕ
exercise_in words token = elim (token.said) [
  | Gives (Mode Exercise) from ↦ exercise_number (drop from (word_at words token.word))
  | others ↦ None
]

-- a token says that no index is used
abbrev pub is_noindex : Token → Bool
is_noindex token = elim (token.said) [ Sets Noindex ↦ true | others ↦ false ]

-- a token says that no files are looked at
abbrev pub is_nofiles : Token → Bool
is_nofiles token = elim (token.said) [ Sets Nofiles ↦ true | others ↦ false ]

-- the first mode and the first selection, the last format and the last numbers
unfoldable pub seen : List (List ℕ) → List Token → Seen
seen words tokens = record {
  command = slice_get (filter_map command_of tokens) 0;
  chosen = slice_get (filter_map chosen_of tokens) 0;
  printed = last_or None (filter_map printed_in tokens);
  after = last_or None (filter_map (after_in words) tokens);
  exercise = last_or None (filter_map (exercise_in words) tokens);
  noindex = list_any is_noindex tokens;
  nofiles = list_any is_nofiles tokens;
  last = last_or None tokens;
}
