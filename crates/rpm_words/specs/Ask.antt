-- The command that a command line asks for.
use Rattle.std.specs.Prelude.{◌≡◌, ◌<◌, ◌≤◌, ℕ, List, Option, Some, None, Result, Ok, Err, Bool, true, false, IsSome}
use Rattle.std.specs.Prelude.{length, take, unwrap_or}
use Rattle.std.specs.Option.{option_map_or, IfSome}
use Rattle.std.specs.List.{filter_map, All, AllByRecursion}
use Rattle.rpm_words.specs.declared.switch.Program.{Program}
use Rattle.rpm_words.specs.declared.switch.Command.{Command}
use Rattle.rpm_words.specs.declared.switch.Command.TheVariants.{Query, Addpkg, Replacepkg, Erasepkg, Verify, Initdb}
use Rattle.rpm_words.specs.declared.switch.Command.TheVariants.{Rebuilddb, Verifydb, Exportdb, Importdb, Exercise}
use Rattle.rpm_words.specs.declared.switch.Command.TheVariants.{Order, Checkfiles, Help, Version}
use Rattle.rpm_words.specs.declared.switch.Chosen.{Chosen}
use Rattle.rpm_words.specs.declared.switch.Chosen.TheVariants.{Label}
use Rattle.rpm_words.specs.declared.token.Token.{Token}
use Rattle.rpm_words.specs.declared.token.Said.TheVariants.{Argument}
use Rattle.rpm_words.specs.declared.seen.Seen.{Seen}
use Rattle.rpm_words.specs.declared.words.Span.{Span}
use Rattle.rpm_words.specs.declared.seen.Printed.TheVariants.{Files, By}
use Rattle.rpm_words.specs.declared.fault.WordsFault.{WordsFault}
use Rattle.rpm_words.specs.declared.fault.WordsKind.TheVariants.{NoMode}
use Rattle.rpm_words.specs.declared.ask.Mode.{Mode}
use Rattle.rpm_words.specs.declared.ask.Mode.TheVariants as mode
use Rattle.rpm_words.specs.Words.{word_at}
use Rattle.rpm_words.specs.Number.{number}
use Rattle.rpm_words.specs.Fault.{fault}
use Rattle.rpm_words.specs.Token.{said_tokens}
use Rattle.rpm_words.specs.Place.{program_of}
use Rattle.rpm_words.specs.Seen.{seen}
use Rattle.rpm_words.specs.Takes.{query_takes, expected_form}
use Rattle.rpm_words.specs.Broken.{argument_fault, first_broken}

-- what a command line asks for
pub record AskParts : Type 0 where
  pub mode : Mode
  pub chosen : Chosen
  pub after : ℕ
  pub noindex : Bool
  pub lists : Bool
  pub format : Option Span
  pub arguments : List ℕ

-- the word that is an argument
abbrev pub argument_in : Token → Option ℕ
argument_in token = elim (token.said) [ Argument ↦ Some token.word | others ↦ None ]

-- the places of the arguments, in order
unfoldable pub arguments : List Token → List ℕ
arguments tokens = filter_map argument_in tokens

-- the mode of a command, with the number that an exercise has
abbrev pub mode_of : Command → ℕ → Mode
mode_of Query n = mode.Query
mode_of Addpkg n = mode.Addpkg
mode_of Replacepkg n = mode.Replacepkg
mode_of Erasepkg n = mode.Erasepkg
mode_of Verify n = mode.Verify
mode_of Initdb n = mode.Initdb
mode_of Rebuilddb n = mode.Rebuilddb
mode_of Verifydb n = mode.Verifydb
mode_of Exportdb n = mode.Exportdb
mode_of Importdb n = mode.Importdb
mode_of Exercise n = mode.Exercise n
mode_of Order n = mode.Order
mode_of Checkfiles n = mode.Checkfiles
mode_of Help n = mode.Help
mode_of Version n = mode.Version

-- what is meant where no rule is broken; an exercise has a number then
abbrev pub meant_parts : Seen → List ℕ → AskParts
meant_parts seen arguments = record {
  mode = mode_of (unwrap_or seen.command Query) (unwrap_or seen.exercise 1);
  chosen = unwrap_or seen.chosen Label;
  after = unwrap_or seen.after 0;
  noindex = seen.noindex;
  lists = elim (seen.printed) [ Some Files ↦ true | others ↦ false ];
  format = elim (seen.printed) [ Some (By span) ↦ Some span | others ↦ None ];
  arguments = arguments;
}

-- what words ask a program for: the first rule that they break, or else what they mean
unfoldable pub asked_by : Program → List (List ℕ) → Result AskParts WordsFault
asked_by program words =
    let tokens = said_tokens program words in
    let told = seen words tokens in
    elim (first_broken words tokens told (arguments tokens)) [
      | Some f ↦ Err f
      | None ↦ Ok (meant_parts told (arguments tokens))
    ]

-- the command, or the first rule that is broken
unfoldable pub ask : List (List ℕ) → Result AskParts WordsFault
ask words = option_map_or (λ program. asked_by program words) (program_of words) (Err (fault NoMode 0))

-- what is so of each command that words ask for
pub record IsCommandSound (words : List (List ℕ)) (a : AskParts) : Type 0 where
  pub arguments : All (λ i. i < length words) a.arguments
  pub exercise : (n : ℕ) → a.mode ≡ mode.Exercise n → (1 ≤ n) × (n ≤ 100000)
  pub format : IfSome a.format (λ span. (span.word < length words) × (span.from ≤ length (word_at words span.word)))

-- an argument of a query is what its selection wants
abbrev pub IsFit : List (List ℕ) → Chosen → ℕ → Type 0
IsFit words chosen word = argument_fault words (expected_form (query_takes chosen)) word ≡ None

-- an argument is a package number
abbrev pub IsNumber : List (List ℕ) → ℕ → Type 0
IsNumber words word = IsSome (number (word_at words word))

-- the package numbers among the arguments: each where packages are erased, and the first of two where one is replaced
pub record HasNumbers (words : List (List ℕ)) (a : AskParts) : Type 0 where
  pub erased : a.mode ≡ mode.Erasepkg → AllByRecursion (IsNumber words) a.arguments
  pub replaced : a.mode ≡ mode.Replacepkg → (length a.arguments ≡ 2)
      × AllByRecursion (IsNumber words) (take 1 a.arguments)
