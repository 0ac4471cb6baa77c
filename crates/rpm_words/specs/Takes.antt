-- How many arguments a command takes, and of which kind.
use Rattle.std.specs.Prelude.{ℕ, List, Option, Some, None, take}
use Rattle.rpm_words.specs.declared.switch.Command.{Command}
use Rattle.rpm_words.specs.declared.switch.Command.TheVariants as command
use Rattle.rpm_words.specs.declared.switch.Chosen.{Chosen}
use Rattle.rpm_words.specs.declared.switch.Chosen.TheVariants as chosen
use Rattle.rpm_words.specs.declared.takes.Expected.{Expected}
use Rattle.rpm_words.specs.declared.takes.Expected.TheVariants.{Text, Number, Capability}
use Rattle.rpm_words.specs.declared.takes.ArgumentRule.{ArgumentRule}
use Rattle.rpm_words.specs.declared.takes.ArgumentRule.TheVariants.{Nothing, Any, Several, NumberAndText}

-- what a query takes, by what it picks packages by
abbrev pub query_takes : Chosen → ArgumentRule
query_takes chosen.All = Any Text
query_takes chosen.Number = Several Number
query_takes chosen.Tid = Several Number
query_takes chosen.Provides = Several Capability
query_takes chosen.Requires = Several Capability
query_takes chosen.Conflicts = Several Capability
query_takes chosen.Obsoletes = Several Capability
query_takes chosen.Recommends = Several Capability
query_takes others = Several Text

-- what a command takes
abbrev pub takes : Command → Chosen → ArgumentRule
takes command.Query by = query_takes by
takes command.Addpkg by = Several Text
takes command.Replacepkg by = NumberAndText
takes command.Erasepkg by = Several Number
takes others by = Nothing

-- how many there have to be
abbrev pub fewest : ArgumentRule → ℕ
fewest NumberAndText = 2
fewest (Several kind) = 1
fewest others = 0

-- how many there may be
abbrev pub most : ArgumentRule → Option ℕ
most Nothing = Some 0
most NumberAndText = Some 2
most others = None

-- what they have to be
abbrev pub expected_form : ArgumentRule → Expected
expected_form Nothing = Text
expected_form (Any kind) = kind
expected_form (Several kind) = kind
expected_form NumberAndText = Number

-- a rule checks these of the arguments: the first alone where it wants a number and a text
abbrev pub checked_arguments : ArgumentRule → List ℕ → List ℕ
checked_arguments NumberAndText arguments = take 1 arguments
checked_arguments others arguments = arguments
