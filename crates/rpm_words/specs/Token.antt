-- What a command line says, word by word and, in a cluster, letter by letter.
use Rattle.std.specs.Prelude.{ℕ, List, [], ◌∷◌, ◌++◌, ◌+◌, drop}
use Rattle.std.specs.Option.{option_map}
use Rattle.std.specs.List.{filter_map}
use Rattle.rpm_words.specs.declared.switch.Program.{Program}
use Rattle.rpm_words.specs.declared.purpose.Purpose.{Purpose}
use Rattle.rpm_words.specs.declared.purpose.Purpose.TheVariants.{Name, Unknown, Cluster, Whole, Inline, Awaits, Value}
use Rattle.rpm_words.specs.declared.purpose.Purpose.TheVariants.{Plain, Rest}
use Rattle.rpm_words.specs.declared.token.Token.{Token}
use Rattle.rpm_words.specs.declared.token.Said.{Said}
use Rattle.rpm_words.specs.declared.token.Said.TheVariants.{Refused, Sets, Gives, Argument}
use Rattle.rpm_words.specs.Switch.{short_switch}
use Rattle.rpm_words.specs.Purpose.{purpose_behind}

-- a word at its place
abbrev pub token_at : ℕ → Said → Token
token_at word said = record { word = word; said = said }

-- what a word says that is there for this: a cluster each of its short options, and the program's name and `--` nothing
abbrev pub says : ℕ → Purpose → List ℕ → List Token
says word Unknown text = token_at word Refused ∷ []
says word Cluster text = filter_map (λ b. option_map (λ option. token_at word (Sets option)) (short_switch b)) text
says word (Whole switch) text = token_at word (Sets switch) ∷ []
says word (Inline switch from) text = token_at word (Sets switch) ∷ token_at word (Gives switch from) ∷ []
says word (Awaits switch) text = token_at word (Sets switch) ∷ []
says word (Value switch) text = token_at word (Gives switch 0) ∷ []
says word Plain text = token_at word Argument ∷ []
says word Rest text = token_at word Argument ∷ []
says word others text = []

-- what the words from a place on say, after one that is there for `previous`
unfoldable pub said_behind : Program → Purpose → ℕ → List (List ℕ) → List Token
said_behind program previous i [] = []
said_behind program previous i (text ∷ rest) =
    says i (purpose_behind program previous text) text
    ++ said_behind program (purpose_behind program previous text) (i + 1) rest

-- what the words after the program's name say
unfoldable pub said_tokens : Program → List (List ℕ) → List Token
said_tokens program words = said_behind program Name 1 (drop 1 words)
