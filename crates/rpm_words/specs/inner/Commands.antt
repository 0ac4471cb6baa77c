-- The command that a mode comes from.
use Rattle.std.proofs.Common.{◌≡◌, ℕ, refl}
use Rattle.rpm_words.specs.declared.switch.Command.{Command}
use Rattle.rpm_words.specs.declared.switch.Command.TheVariants as command
use Rattle.rpm_words.specs.declared.ask.Mode.{Mode}
use Rattle.rpm_words.specs.declared.ask.Mode.TheVariants as mode
use Rattle.rpm_words.specs.Ask.{mode_of}

-- the command of a mode of the code
abbrev pub command_of_mode : Mode → Command
command_of_mode mode.Query = command.Query
command_of_mode mode.Addpkg = command.Addpkg
command_of_mode mode.Replacepkg = command.Replacepkg
command_of_mode mode.Erasepkg = command.Erasepkg
command_of_mode mode.Verify = command.Verify
command_of_mode mode.Initdb = command.Initdb
command_of_mode mode.Rebuilddb = command.Rebuilddb
command_of_mode mode.Verifydb = command.Verifydb
command_of_mode mode.Exportdb = command.Exportdb
command_of_mode mode.Importdb = command.Importdb
command_of_mode (mode.Exercise n) = command.Exercise
command_of_mode mode.Order = command.Order
command_of_mode mode.Checkfiles = command.Checkfiles
command_of_mode mode.Help = command.Help
command_of_mode mode.Version = command.Version

pub command_back : (c : Command) (n : ℕ) → command_of_mode (mode_of c n) ≡ c
command_back command.Query n = refl
command_back command.Addpkg n = refl
command_back command.Replacepkg n = refl
command_back command.Erasepkg n = refl
command_back command.Verify n = refl
command_back command.Initdb n = refl
command_back command.Rebuilddb n = refl
command_back command.Verifydb n = refl
command_back command.Exportdb n = refl
command_back command.Importdb n = refl
command_back command.Exercise n = refl
command_back command.Order n = refl
command_back command.Checkfiles n = refl
command_back command.Help n = refl
command_back command.Version n = refl
