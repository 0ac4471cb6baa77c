-- What is printed of a package file that is there.
use Rattle.std.specs.Prelude.{ℕ, List, [], ◌∷◌, Result, Ok, Err}
use Rattle.rpm_file.specs.declared.fault.FileFault.{FileFault}
use Rattle.rpm_file.specs.Package.{HeaderAndRest}
use Rattle.rpm_qfparse.specs.Tree.{Tree}
use Rattle.rpm_qfeval.specs.Meaning.{meaning}
use Rattle.rpm_effects.specs.Texts.{refused_line}
use Rattle.rpm_effects.specs.Steps.{bearer, whole_step, ToErr}
use Rattle.rpm_effects.specs.Portions.{Portion, fails, told_portion}
use Rattle.rpm_print.specs.Printed.{printed_step}

-- a package file has its header printed with the number 0, or a line, for which the argument fails
abbrev pub read_part : Tree → ℕ → List ℕ → Result HeaderAndRest FileFault → Portion
read_part tree j path (Ok found) = told_portion (printed_step (bearer j 0) (meaning found.header 0 tree) ∷ [])
read_part tree j path (Err fault) = fails (ToErr (whole_step j) (refused_line path fault))
