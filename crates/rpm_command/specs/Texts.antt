-- What the program says of itself: the texts of `--help` and `--version`, as the code has them in src/texts.rt. On it rests
-- `text` of the page (`rpm_tool`, Theorem.antt).
use Rattle.std.specs.Prelude.{ℕ, List, Option, Some, None}
use Rattle.rpm_words.specs.declared.ask.Mode.{Mode}
use Rattle.rpm_words.specs.declared.ask.Mode.TheVariants.{Help, Version}
use Rattle.rpm_command.specs.declared.texts.TheConstants.{HELP, VERSION}

-- the text of a mode that opens nothing
abbrev pub text_of : Mode → Option (List ℕ)
text_of mode = elim mode [ Help ↦ Some HELP.now | Version ↦ Some VERSION.now | _ ↦ None ]
