-- What tokens and texts say, by a part of them alone.
use Rattle.std.proofs.Common.{ℕ, List, Option, Some, None, Bool, true, false, ◌&&◌, nat_le, nat_lt, length, drop}
use Rattle.std.specs.Prelude.{if◌then◌else◌}
use Rattle.std.specs.Option.{option_and_then}
use Rattle.std.specs.List.{position_or_len}
use Rattle.rpm_words.specs.declared.switch.Command.{Command}
use Rattle.rpm_words.specs.declared.switch.Command.TheVariants.{Exercise}
use Rattle.rpm_words.specs.declared.switch.Switch.{Switch}
use Rattle.rpm_words.specs.declared.switch.Switch.TheVariants.{Mode, Lists, Format}
use Rattle.rpm_words.specs.declared.token.Token.{Token}
use Rattle.rpm_words.specs.declared.token.Said.{Said}
use Rattle.rpm_words.specs.declared.token.Said.TheVariants.{Refused, Sets, Gives, Argument}
use Rattle.rpm_words.specs.declared.words.Span.{Span}
use Rattle.rpm_words.specs.declared.seen.Printed.{Printed}
use Rattle.rpm_words.specs.declared.seen.Printed.TheVariants.{Files, By}
use Rattle.rpm_words.specs.declared.fault.WordsFault.{WordsFault}
use Rattle.rpm_words.specs.declared.fault.WordsKind.TheVariants.{Misplaced}
use Rattle.rpm_words.specs.Number.{exercise_number}
use Rattle.rpm_words.specs.Fault.{fault}
use Rattle.rpm_words.specs.Token.{token_at}
use Rattle.rpm_words.specs.Purpose.{is_equals}
use Rattle.rpm_words.specs.Broken.{is_misplaced}

-- the place of a word that is an argument
abbrev pub argument_said : ℕ → Said → Option ℕ
argument_said word Argument = Some word
argument_said word others = None

-- how is to be printed, if an option says so
abbrev pub printed_said : ℕ → Said → Option Printed
printed_said word (Sets Lists) = Some Files
printed_said word (Gives Format from) = Some (By (record { word = word; from = from }))
printed_said word others = None

-- the number of an exercise
abbrev pub exercise_said : List ℕ → Said → Option ℕ
exercise_said text (Gives (Mode Exercise) from) = exercise_number (drop from text)
exercise_said text others = None

-- a number from 1 to 100,000
abbrev pub within_exercise : Option ℕ → Option ℕ
within_exercise o = option_and_then (λ n. if nat_le 1 n && nat_le n 100000 then Some n else None) o

-- the format by which is printed, if one is given
abbrev pub format_printed : Option Printed → Option Span
format_printed (Some (By span)) = Some span
format_printed others = None

-- an option that isn't known
abbrev pub is_refused : Said → Bool
is_refused Refused = true
is_refused others = false

-- an option that doesn't belong to a command
abbrev pub misplaced_said : Command → ℕ → Said → Option WordsFault
misplaced_said command word (Sets switch) = if is_misplaced switch command then Some (fault Misplaced word) else None
misplaced_said command word others = None

-- whether a value is written into the word
abbrev pub has_equals : List ℕ → Bool
has_equals text = nat_lt (position_or_len is_equals text) (length text)

-- an option at its place
abbrev pub option_at : ℕ → Switch → Token
option_at word switch = token_at word (Sets switch)
