-- The steps and parts of the reports, each by a name of its own.
use Rattle.std.proofs.Common.{ℕ, ◌==◌, List, [], ◌∷◌, map, length, false, not, if◌then◌else◌, Result}
use Rattle.std.specs.FinMap.{FinMap}
use Rattle.std.specs.List.{concat, flat_map}
use Rattle.std.specs.Ordering.{nat_cmp}
use Rattle.std.specs.Prelude.{codes, decimal}
use Rattle.rpm_filecheck.specs.Owners.{Conflict}
use Rattle.rpm_header.specs.Header.{Header}
use Rattle.rpm_header.specs.declared.form.HeaderFault.{HeaderFault}
use Rattle.rpm_outside.specs.Files.{Units}
use Rattle.rpm_pkgdb.specs.Store.{Store}
use Rattle.rpm_db.specs.Database.{without_index}
use Rattle.rpm_db.specs.State.{Package, header_or}
use Rattle.rpm_db.specs.Verdicts.{verdict}
use Rattle.rpm_check.specs.Unmet.{unmet}
use Rattle.rpm_effects.specs.Portions.{Portion}
use Rattle.rpm_effects.specs.Steps.{Step, ToErr, whole_step}
use Rattle.rpm_print.specs.Printed.{bad_line}
use Rattle.rpm_report.specs.Labels.{header_label}
use Rattle.rpm_report.specs.Reports.{verdict_part}
use Rattle.rpm_report.specs.Requirements.{class_steps, unmet_step}

-- a text of a header, empty where the header is bad
abbrev pub read_text : (Header → List ℕ) → Result Header HeaderFault → List ℕ
read_text text r = header_or text r []

-- the label of a package, as a line of its own
abbrev pub label_text : List ℕ → ℕ → Header → List ℕ
label_text indent n h = concat (indent ∷ header_label n h ∷ codes "\n" ∷ [])

-- packages that all lead to each other
abbrev pub cycle_line : ℕ → List ℕ
cycle_line count = concat (codes "cycle: " ∷ decimal count ∷ codes "\n" ∷ [])

-- the path, the labels of its two packages, and the parts that differ
abbrev pub conflict_line : List ℕ → List ℕ → Conflict → List ℕ
conflict_line first second c =
    concat (c.path ∷ codes ": " ∷ first ∷ codes " " ∷ second ∷ codes ":" ∷ (if c.digest then codes " digest" else [])
    ∷ (if c.mode then codes " mode" else []) ∷ (if c.link then codes " link" else []) ∷ codes "\n" ∷ [])

-- an entry has the verdict of its number
abbrev pub entry_verdict : Units → Store → ℕ × Package → Portion
entry_verdict file store e = verdict_part e.0 (verdict file (without_index store) e.0)

-- a line comes once all packages were read, and so it is the whole argument's
abbrev pub unread_step : ℕ → Step
unread_step n = ToErr (whole_step 0) (bad_line n)

-- a line for each requirement that no package meets, and the argument fails where there is one
abbrev pub unmet_part : FinMap nat_cmp Package → Portion
unmet_part packages = record { steps = map (unmet_step packages) (unmet packages); fails = not (length (unmet packages) == 0) }

-- class by class; the argument doesn't fail for it
abbrev pub classes_part : FinMap nat_cmp Package → List (List ℕ) → Portion
classes_part packages classes = record { steps = flat_map (class_steps packages) classes; fails = false }
