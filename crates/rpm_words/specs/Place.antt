-- The folder of the database.
use Rattle.std.specs.Prelude.{ℕ, List, Option, Some, None, unwrap_or, if◌then◌else◌, drop, codes}
use Rattle.std.specs.Option.{option_map_or}
use Rattle.std.specs.List.{filter_map, last_or, slice_get}
use Rattle.std.specs.Str.{bytes_eq}
use Rattle.rpm_words.specs.declared.switch.Program.{Program}
use Rattle.rpm_words.specs.declared.switch.Program.TheVariants.{Rpm, Rpmdb}
use Rattle.rpm_words.specs.declared.switch.Switch.TheVariants.{Folder}
use Rattle.rpm_words.specs.declared.token.Token.{Token}
use Rattle.rpm_words.specs.declared.token.Said.TheVariants.{Sets, Gives}
use Rattle.rpm_words.specs.Words.{word_at}
use Rattle.rpm_words.specs.Token.{said_tokens}

-- the program that the first word names
unfoldable pub program_of : List (List ℕ) → Option Program
program_of words = option_map_or (λ text.
    if bytes_eq text (codes "rpm") then Some Rpm else if bytes_eq text (codes "rpmdb") then Some Rpmdb else None)
    (slice_get words 0) None

-- the folder where none is given
abbrev pub own_place : List ℕ
own_place = codes "/var/lib/rpm"

-- the folder that a token names: `--dbpath` its value, and rpm's own place without one
abbrev pub folder_in : List (List ℕ) → Token → Option (List ℕ)
folder_in words token = elim (token.said) [
  | Sets Folder ↦ Some own_place
  | Gives Folder from ↦ Some (drop from (word_at words token.word))
  | others ↦ None
]

-- the folder that is named last
unfoldable pub folder : Program → List (List ℕ) → List ℕ
folder program words =
    unwrap_or (last_or None (filter_map (folder_in words) (said_tokens program words))) own_place

-- the folder of the database
unfoldable pub place : List (List ℕ) → List ℕ
place words = option_map_or (λ program. folder program words) (program_of words) own_place
