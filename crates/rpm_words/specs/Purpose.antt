-- What each word of a command line is there for.
use Rattle.std.specs.Prelude.{ℕ, List, Bool, true, false, not, ◌||◌, ◌==◌, ◌+◌, nat_lt, if◌then◌else◌, length, take}
use Rattle.std.specs.Prelude.{drop, codes}
use Rattle.std.specs.Option.{option_map_or, is_some}
use Rattle.std.specs.List.{list_all, before_first, position_or_len}
use Rattle.std.specs.Str.{bytes_eq}
use Rattle.rpm_words.specs.declared.switch.Program.{Program}
use Rattle.rpm_words.specs.declared.switch.Program.TheVariants.{Rpm, Rpmdb}
use Rattle.rpm_words.specs.declared.switch.Command.TheVariants.{Exercise}
use Rattle.rpm_words.specs.declared.switch.Switch.{Switch}
use Rattle.rpm_words.specs.declared.switch.Switch.TheVariants.{Mode, Format, After, Folder}
use Rattle.rpm_words.specs.declared.purpose.Purpose.{Purpose}
use Rattle.rpm_words.specs.declared.purpose.Purpose.TheVariants.{Unknown, Cluster, Whole, Inline, Awaits, Value, Ends}
use Rattle.rpm_words.specs.declared.purpose.Purpose.TheVariants.{Plain, Rest}
use Rattle.rpm_words.specs.Switch.{long_switch, short_switch}

-- whether the option has a value
abbrev pub takes_value : Switch → Bool
takes_value (Mode Exercise) = true
takes_value Format = true
takes_value After = true
takes_value Folder = true
takes_value others = false

-- the byte of =
abbrev pub is_equals : ℕ → Bool
is_equals b = b == 61

-- what a word is for that spells an option: with its value after the sign, or with none in its word
abbrev pub spelled_purpose : List ℕ → Switch → Purpose
spelled_purpose text switch =
    if nat_lt (position_or_len is_equals text) (length text)
    then (if takes_value switch then Inline switch (position_or_len is_equals text + 1) else Unknown)
    else (if takes_value switch then Awaits switch else Whole switch)

-- a word that begins with two dashes
unfoldable pub long_purpose : Program → List ℕ → Purpose
long_purpose program text =
    option_map_or (spelled_purpose text) (long_switch program (before_first is_equals text)) Unknown

-- after the first byte stand short options alone
unfoldable pub is_cluster : Program → List ℕ → Bool
is_cluster Rpm text = list_all (λ b. is_some (short_switch b)) (drop 1 text)
is_cluster Rpmdb text = false

-- a word that nothing in front gives another meaning
unfoldable pub own_purpose : Program → List ℕ → Purpose
own_purpose program text =
    if bytes_eq text (codes "--") then Ends
    else if bytes_eq (take 2 text) (codes "--") then long_purpose program text
    else if bytes_eq text (codes "-") || not (bytes_eq (take 1 text) (codes "-")) then Plain
    else if is_cluster program text then Cluster
    else Unknown

-- the word in front decides where it awaits a value, and where the options have ended
unfoldable pub purpose_behind : Program → Purpose → List ℕ → Purpose
purpose_behind program (Awaits switch) text = Value switch
purpose_behind program Ends text = Rest
purpose_behind program Rest text = Rest
purpose_behind program others text = own_purpose program text
