-- The lines of a report, each by a name of its own.
use Rattle.std.specs.Prelude.{ℕ, List, [], Option, Some, None}
use Rattle.std.specs.Option.{option_map_or}
use Rattle.rpm_tags.specs.Wanted.{Need}
use Rattle.rpm_db.specs.State.{Package, Good, Bad}
use Rattle.rpm_effects.specs.Portions.{Portion, nothing, fails}
use Rattle.rpm_print.specs.Printed.{bad_step}
use Rattle.rpm_report.specs.Requirements.{unmet_line}

-- a Bad package has a line, for which the argument fails
abbrev pub bad_part : ℕ × Package → Portion
bad_part (n, Good bytes) = nothing
bad_part (n, Bad) = fails (bad_step 0 n)

-- a number has the line of its package, where that is Bad
abbrev pub bad_at : ℕ → Option Package → Portion
bad_at n None = nothing
bad_at n (Some p) = bad_part (n, p)

-- the line of a requirement, none where there is none at that place
abbrev pub line_of : List ℕ → Option Need → List ℕ
line_of label need = option_map_or (unmet_line label) need []
