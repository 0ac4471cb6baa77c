-- The fault that is told, and what the options come to, one more at a time; and what functions say of parts of it.
use Rattle.std.specs.Prelude.{ℕ, ◌+◌, List, Option, Some, None, Bool, true, false, ◌||◌, if◌then◌else◌, length}
use Rattle.std.specs.Option.{option_or, option_map, option_map_or, is_none}
use Rattle.std.specs.List.{filter_map}
use denote.Enum.Bare.{sameb}
use Rattle.rpm_words.specs.contracts.switch.Command as the_command
use Rattle.rpm_words.specs.contracts.switch.Chosen as the_chosen
use Rattle.rpm_words.specs.declared.switch.Command.{Command}
use Rattle.rpm_words.specs.declared.switch.Chosen.{Chosen}
use Rattle.rpm_words.specs.declared.switch.Switch.{Switch}
use Rattle.rpm_words.specs.declared.purpose.Purpose.{Purpose}
use Rattle.rpm_words.specs.declared.purpose.Purpose.TheVariants.{Unknown, Whole, Inline, Awaits}
use Rattle.rpm_words.specs.declared.token.Token.{Token}
use Rattle.rpm_words.specs.declared.token.Said.TheVariants.{Sets}
use Rattle.rpm_words.specs.declared.seen.Seen.{Seen}
use Rattle.rpm_words.specs.declared.seen.Printed.{Printed}
use Rattle.rpm_words.specs.declared.seen.Printed.TheVariants.{Files, By}
use Rattle.rpm_words.specs.declared.fault.WordsFault.{WordsFault}
use Rattle.rpm_words.specs.declared.fault.WordsKind.TheVariants.{NoMode, MissingArgument}
use Rattle.rpm_words.specs.declared.ask.Mode.{Mode}
use Rattle.rpm_words.specs.Fault.{fault, is_before}
use Rattle.rpm_words.specs.Switch.{short_switch}
use Rattle.rpm_words.specs.Purpose.{takes_value}
use Rattle.rpm_words.specs.Token.{token_at}
use Rattle.rpm_words.specs.Command.{command_of, chosen_of}
use Rattle.rpm_words.specs.Seen.{printed_in, after_in, exercise_in, is_noindex, is_nofiles}
use Rattle.rpm_words.specs.Broken.{is_awaiting}
use Rattle.rpm_words.specs.Ask.{AskParts}

-- the one of two faults that is told
abbrev pub earlier : Option WordsFault → Option WordsFault → Option WordsFault
earlier None other = other
earlier (Some f) None = Some f
earlier (Some f) (Some g) = Some (if is_before g f then g else f)

-- what one token more makes of it
abbrev pub seen_with : List (List ℕ) → Seen → Token → Seen
seen_with words before token = record {
  command = option_or before.command (command_of token);
  chosen = option_or before.chosen (chosen_of token);
  printed = option_or (printed_in token) before.printed;
  after = option_or (after_in words token) before.after;
  exercise = option_or (exercise_in words token) before.exercise;
  noindex = before.noindex || is_noindex token;
  nofiles = before.nofiles || is_nofiles token;
  last = Some token;
}

-- two commands are the same
abbrev pub is_same_command : Command → Command → Bool
is_same_command a b = sameb the_command.the_type a b

-- two choices are the same
abbrev pub is_same_chosen : Chosen → Chosen → Bool
is_same_chosen a b = sameb the_chosen.the_type a b

-- the short options among the bytes
abbrev pub letters : ℕ → List ℕ → List Token
letters word text = filter_map (λ b. option_map (λ option. token_at word (Sets option)) (short_switch b)) text

-- an option with its value after the place of the sign
abbrev pub inline : ℕ → Switch → Purpose
inline place switch = if takes_value switch then Inline switch (place + 1) else Unknown

-- an option with no value in its word
abbrev pub lone : Switch → Purpose
lone switch = if takes_value switch then Awaits switch else Whole switch

-- the last token is an option, and its value does not follow
abbrev pub no_value : List (List ℕ) → Option Token → Option WordsFault
no_value words last =
    if option_map_or is_awaiting last false then Some (fault MissingArgument (length words)) else None

-- no word says what is to be done
abbrev pub no_mode : List (List ℕ) → Option Command → Option WordsFault
no_mode words command = if is_none command then Some (fault NoMode (length words)) else None

-- the parts of a command put together
abbrev pub ask_parts : Mode → Chosen → ℕ → Bool → Option Printed → List ℕ → AskParts
ask_parts mode chosen after noindex printed arguments = record {
  mode = mode;
  chosen = chosen;
  after = after;
  noindex = noindex;
  lists = elim printed [ Some Files ↦ true | others ↦ false ];
  format = elim printed [ Some (By span) ↦ Some span | others ↦ None ];
  arguments = arguments;
}
