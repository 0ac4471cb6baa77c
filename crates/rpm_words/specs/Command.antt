-- The mode and the selection that a command line begins with.
use Rattle.std.specs.Prelude.{Option, Some, None, Bool, false, not, ◌||◌}
use denote.Enum.Bare.{sameb}
use Rattle.rpm_words.specs.contracts.switch.Command as the_command
use Rattle.rpm_words.specs.contracts.switch.Chosen as the_chosen
use Rattle.rpm_words.specs.declared.switch.Command.{Command}
use Rattle.rpm_words.specs.declared.switch.Chosen.{Chosen}
use Rattle.rpm_words.specs.declared.switch.Switch.TheVariants.{Mode, Choose}
use Rattle.rpm_words.specs.declared.token.Token.{Token}
use Rattle.rpm_words.specs.declared.token.Said.TheVariants.{Sets}

-- the mode that a token gives
abbrev pub command_of : Token → Option Command
command_of token = elim (token.said) [ Sets (Mode command) ↦ Some command | others ↦ None ]

-- the selection that a token gives
abbrev pub chosen_of : Token → Option Chosen
chosen_of token = elim (token.said) [ Sets (Choose chosen) ↦ Some chosen | others ↦ None ]

-- two values differ when both are there and they aren't the same
abbrev pub values_differ : {X : Type 0} → (X → X → Bool) → Option X → Option X → Bool
values_differ is_same (Some a) (Some b) = not (is_same a b)
values_differ is_same a b = false

-- the token gives another mode, or another selection; `sameb` is the `==` that is derived for an enum without fields
abbrev pub is_other : Option Command → Option Chosen → Token → Bool
is_other command chosen token = values_differ (sameb the_command.the_type) (command_of token) command
    || values_differ (sameb the_chosen.the_type) (chosen_of token) chosen
