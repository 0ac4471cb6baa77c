-- What is printed of a package. On it rest the steps of all courses under `plain`, `files` and `keyed` of the page
-- (`rpm_tool`, Theorem.antt).
use Rattle.std.specs.Prelude.{ℕ, List, ◌++◌, map, codes, decimal, Result, Ok, Err}
use Rattle.rpm_qfparse.specs.Tree.{Tree}
use Rattle.rpm_qfeval.specs.Meaning.{meaning}
use Rattle.rpm_db.specs.State.{Package, Good, Bad, above, package_or}
use Rattle.rpm_effects.specs.Steps.{Bearer, bearer, Step, ToOut, ToErr}
use Rattle.rpm_effects.specs.Portions.{Portion, told_portion}
use Rattle.rpm_header.specs.Digest.{magic}
use Rattle.rpm_command.specs.declared.reading.Request.{Request}
use Rattle.rpm_command.specs.declared.reading.Request.TheVariants as request

-- the line of a number whose package can't be read
unfoldable pub bad_line : ℕ → List ℕ
bad_line n = codes "error: package " ++ decimal n ++ codes ": header cannot be read\n"

-- the line of a header for which a bracket's tags have different numbers of elements
unfoldable pub sizes_line : List ℕ
sizes_line = codes "error: incorrect format: array iterator used with different sized arrays\n"

-- the line that reports a package whose header is bad
abbrev pub bad_step : ℕ → ℕ → Step
bad_step j n = ToErr (bearer j n) (bad_line n)

-- what a format means is printed whole, or not at all
abbrev pub printed_step : Bearer → Result (List ℕ) (ℕ × ℕ) → Step
printed_step for what = elim what [ Ok bytes ↦ ToOut for bytes | Err counts ↦ ToErr for sizes_line ]

-- a package's step prints its header by a format, or is the line that reports it
abbrev pub step_of : Tree → ℕ → ℕ × Package → Step
step_of tree j e = package_or (λ h. printed_step (bearer j e.0) (meaning h e.0 tree)) e.1 (bad_step j e.0)

-- a part has the packages above `after`, one after the other
abbrev pub packages_part : (ℕ × Package → Step) → ℕ → List (ℕ × Package) → Portion
packages_part step after packages = told_portion (map step (above after packages))

-- a header goes out after the magic
abbrev pub exported_step : ℕ → ℕ × Package → Step
exported_step j e = elim e.1 [ Good bytes ↦ ToOut (bearer j e.0) (magic ++ bytes) | Bad ↦ bad_step j e.0 ]

-- a package's step writes it out in an export, and else prints it by a format
abbrev pub step_by : Request → Tree → ℕ → ℕ × Package → Step
step_by request.Export tree j e = exported_step j e
step_by others tree j e = step_of tree j e
