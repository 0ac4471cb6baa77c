-- The first rule that a command line breaks.
use Rattle.std.specs.Prelude.{ℕ, List, [], ◌∷◌, Option, Some, None, Bool, true, false, not, ◌&&◌, ◌||◌, nat_lt}
use Rattle.std.specs.Prelude.{if◌then◌else◌, length, drop, unwrap_or}
use Rattle.std.specs.Option.{option_map, option_map_or, is_none}
use Rattle.std.specs.Result.{is_err}
use Rattle.std.specs.List.{filter_map, slice_get}
use Rattle.rpm_version.specs.Capability.{capability}
use Rattle.rpm_words.specs.declared.switch.Command.{Command}
use Rattle.rpm_words.specs.declared.switch.Command.TheVariants.{Query, Verify, Exercise}
use Rattle.rpm_words.specs.declared.switch.Chosen.{Chosen}
use Rattle.rpm_words.specs.declared.switch.Chosen.TheVariants.{Label, All}
use Rattle.rpm_words.specs.declared.switch.Switch.{Switch}
use Rattle.rpm_words.specs.declared.switch.Switch.TheVariants.{Mode, Choose, After, Nofiles, Folder}
use Rattle.rpm_words.specs.declared.token.Token.{Token}
use Rattle.rpm_words.specs.declared.token.Said.TheVariants.{Refused, Sets, Gives}
use Rattle.rpm_words.specs.declared.seen.Seen.{Seen}
use Rattle.rpm_words.specs.declared.fault.WordsFault.{WordsFault}
use Rattle.rpm_words.specs.declared.fault.WordsKind.TheVariants.{NoMode, TwoModes, UnknownOption, Misplaced}
use Rattle.rpm_words.specs.declared.fault.WordsKind.TheVariants.{MissingArgument, ExtraArgument, BadNumber}
use Rattle.rpm_words.specs.declared.fault.WordsKind.TheVariants.{BadCapability}
use Rattle.rpm_words.specs.declared.takes.Expected.{Expected}
use Rattle.rpm_words.specs.declared.takes.Expected.TheVariants.{Text, Number, Capability}
use Rattle.rpm_words.specs.declared.takes.ArgumentRule.{ArgumentRule}
use Rattle.rpm_words.specs.Words.{word_at}
use Rattle.rpm_words.specs.Number.{number, exercise_number}
use Rattle.rpm_words.specs.Purpose.{takes_value}
use Rattle.rpm_words.specs.Command.{is_other}
use Rattle.rpm_words.specs.Takes.{takes, fewest, most, expected_form, checked_arguments}
use Rattle.rpm_words.specs.Fault.{fault, earliest}

-- a value that has to be a number, and is none
abbrev pub is_bad_number : List (List ℕ) → Token → Bool
is_bad_number words token = elim (token.said) [
  | Gives After from ↦ is_none (number (drop from (word_at words token.word)))
  | Gives (Mode Exercise) from ↦ is_none (exercise_number (drop from (word_at words token.word)))
  | others ↦ false
]

-- what is wrong with a token, where the first mode and the first selection are these
abbrev pub token_fault : List (List ℕ) → Option Command → Option Chosen → Token → Option WordsFault
token_fault words command chosen token =
    if elim (token.said) [ Refused ↦ true | others ↦ false ] then Some (fault UnknownOption token.word)
    else if is_other command chosen token then Some (fault TwoModes token.word)
    else if is_bad_number words token then Some (fault BadNumber token.word)
    else None

-- the token at the least word is the first that is at fault by itself
unfoldable pub early_word_fault : List (List ℕ) → Option Command → Option Chosen → List Token → Option WordsFault
early_word_fault words command chosen tokens = earliest (filter_map (token_fault words command chosen) tokens)

-- a token is an option whose value is the next word
abbrev pub is_awaiting : Token → Bool
is_awaiting token = elim (token.said) [ Sets switch ↦ takes_value switch | others ↦ false ]

-- an option may not stand in this mode: most stand in queries alone, `-a` and `--nofiles` where packages are verified
abbrev pub is_misplaced : Switch → Command → Bool
is_misplaced (Mode other) command = false
is_misplaced Folder command = false
is_misplaced Nofiles Verify = false
is_misplaced Nofiles others = true
is_misplaced (Choose All) Verify = false
is_misplaced others Query = false
is_misplaced others command = true

-- a token is an option that doesn't belong to this command
abbrev pub misplaced_in : Command → Token → Option WordsFault
misplaced_in command token = elim (token.said) [
  | Sets switch ↦ if is_misplaced switch command then Some (fault Misplaced token.word) else None
  | others ↦ None
]

-- the first option that may not stand in the mode
unfoldable pub first_misplaced : Command → List Token → Option WordsFault
first_misplaced command tokens = slice_get (filter_map (misplaced_in command) tokens) 0

-- packages are verified with `-a` and `--nofiles`
abbrev pub lacks_option : Command → Seen → Bool
lacks_option Verify seen = not (elim (seen.chosen) [ Some All ↦ true | others ↦ false ] && seen.nofiles)
lacks_option others seen = false

-- arguments are missing
abbrev pub too_few : List (List ℕ) → Command → Seen → ArgumentRule → List ℕ → Option WordsFault
too_few words command seen taken arguments =
    if lacks_option command seen || nat_lt (length arguments) (fewest taken)
    then Some (fault MissingArgument (length words)) else None

-- the first argument after the most that there may be
abbrev pub too_many : ArgumentRule → List ℕ → Option WordsFault
too_many taken arguments = option_map (fault ExtraArgument) (option_map_or (slice_get arguments) (most taken) None)

-- what is wrong with the argument at a word
abbrev pub argument_fault : List (List ℕ) → Expected → ℕ → Option WordsFault
argument_fault words Text word = None
argument_fault words Number word =
    if is_none (number (word_at words word)) then Some (fault BadNumber word) else None
argument_fault words Capability word =
    if is_err (capability (word_at words word)) then Some (fault BadCapability word) else None

-- the first argument that is at fault
unfoldable pub bad_argument : List (List ℕ) → Expected → List ℕ → Option WordsFault
bad_argument words kind arguments = slice_get (filter_map (argument_fault words kind) arguments) 0

-- the first rule that the words of a command break: the second one is that the last option has its value, the third one
-- that there is a mode
abbrev pub broken_by : List (List ℕ) → List Token → Seen → List ℕ → Command → ArgumentRule → Option WordsFault
broken_by words tokens seen arguments command taken = slice_get (filter_map (λ o. o) (
    early_word_fault words seen.command seen.chosen tokens
    ∷ (if option_map_or is_awaiting seen.last false then Some (fault MissingArgument (length words)) else None)
    ∷ (if is_none seen.command then Some (fault NoMode (length words)) else None)
    ∷ first_misplaced command tokens
    ∷ too_few words command seen taken arguments
    ∷ too_many taken arguments
    ∷ bad_argument words (expected_form taken) (checked_arguments taken arguments)
    ∷ [])) 0

-- the first of these rules that is broken
unfoldable pub first_broken : List (List ℕ) → List Token → Seen → List ℕ → Option WordsFault
first_broken words tokens seen arguments =
    broken_by words tokens seen arguments (unwrap_or seen.command Query)
    (takes (unwrap_or seen.command Query) (unwrap_or seen.chosen Label))
