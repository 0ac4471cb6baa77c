-- The label of a package in a report: what a query by the format `%{NVRA}` prints of it on out. On it rest the courses
-- of the reports, under `plain` and `keyed` of the page (`rpm_tool`, Theorem.antt).
use Rattle.std.specs.Prelude.{ℕ, List, [], codes, Option}
use Rattle.std.specs.Option.{option_map_or}
use Rattle.std.specs.Result.{result_unwrap_or}
use Rattle.std.specs.Ordering.{nat_cmp}
use Rattle.std.specs.FinMap.{FinMap, get}
use Rattle.rpm_header.specs.Header.{Header}
use Rattle.rpm_qfparse.specs.Tree.{Tree, End}
use Rattle.rpm_qfparse.specs.Format.{format}
use Rattle.rpm_qfeval.specs.Meaning.{meaning}
use Rattle.rpm_db.specs.State.{Package, package_or}
use Rattle.rpm_effects.specs.Steps.{bearer, out_bytes}
use Rattle.rpm_print.specs.Printed.{printed_step}

-- the format of a label, and the empty one if it couldn't be read
unfoldable pub label_tree : Tree
label_tree = result_unwrap_or (format (codes "%{NVRA}")) End

-- a number's header has this label
abbrev pub header_label : ℕ → Header → List ℕ
header_label n h = out_bytes (printed_step (bearer 0 n) (meaning h n label_tree))

-- a package has this text of its header, and none where there is no header
abbrev pub package_text : (Header → List ℕ) → Option Package → List ℕ
package_text text held = option_map_or (λ p. package_or text p []) held []

-- the label of a package, by its number
abbrev pub label_of_number : FinMap nat_cmp Package → ℕ → List ℕ
label_of_number packages n = package_text (header_label n) (get packages n)
