-- What is told of the paths that several packages own and that differ: for `--checkfiles` the course of `plain` on the
-- page (`rpm_tool`, Theorem.antt).
use Rattle.std.specs.Prelude.{ℕ, List, [], ◌∷◌, ◌++◌, map, codes, if◌then◌else◌, unwrap_or}
use Rattle.std.specs.List.{concat}
use Rattle.std.specs.Ordering.{nat_cmp}
use Rattle.std.specs.FinMap.{FinMap}
use Rattle.rpm_db.specs.State.{Package}
use Rattle.rpm_filecheck.specs.Owners.{Conflict}
use Rattle.rpm_filecheck.specs.Conflicts.{Report, conflicts, bad, told_label}
use Rattle.rpm_effects.specs.Steps.{whole_step, Step, ToOut, ToErr, Course, idle}
use Rattle.rpm_effects.specs.Portions.{fails, together, before_others}
use Rattle.rpm_print.specs.Printed.{bad_line}
use Rattle.rpm_report.specs.Labels.{label_of_number}

-- ---- its lines

-- a conflict of two files, as a line: the path, the labels of its two packages, and the parts that differ
abbrev pub conflict_step : (ℕ → List ℕ) → Conflict → Step
conflict_step labels c = ToOut (whole_step 0)
    (concat (c.path ∷ codes ": " ∷ labels c.first ∷ codes " " ∷ labels c.second ∷ codes ":"
    ∷ (if c.digest then codes " digest" else []) ∷ (if c.mode then codes " mode" else [])
    ∷ (if c.link then codes " link" else []) ∷ codes "\n" ∷ []))

-- first the packages that can't be read, by rising number, and then the conflicts: each line comes once all packages
-- were read, and so it is the whole argument's
abbrev pub report_steps : (ℕ → List ℕ) → List ℕ → List Conflict → List Step
report_steps labels numbers found =
    map (λ n. ToErr (whole_step 0) (bad_line n)) numbers ++ map (conflict_step labels) found

-- a report on files has a line for each conflict and each Bad package, for which its one argument fails
abbrev pub check_files : FinMap nat_cmp Package → Course
check_files packages =
    before_others (together (map fails (report_steps (label_of_number packages) (bad packages) (conflicts packages))))
    idle

-- ---- the same of a report

-- the label that a report has for a package, empty where it has none
abbrev pub label_told : Report → ℕ → List ℕ
label_told r n = unwrap_or (told_label r n) []

-- the lines of a report of files, from what it was told
abbrev pub told_steps : Report → List Step
told_steps r = report_steps (label_told r) r.bad r.conflicts
