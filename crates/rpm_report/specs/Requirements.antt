-- What the reports on requirements tell: those that no package meets, and an order in which packages could be
-- installed. These are courses under `keyed` of the page (`rpm_tool`, Theorem.antt).
use Rattle.std.specs.Prelude.{◌≡◌, ℕ, ◌<◌, ◌==◌, ◌||◌, not, List, [], ◌∷◌, ◌++◌, map, take, length, codes, decimal}
use Rattle.std.specs.Prelude.{slice_get, slice_index_or, Contains, Bool, true}
use Rattle.std.specs.Prelude.{false, if◌then◌else◌, Result, Ok, Err, is_ok}
use Rattle.std.specs.List.{concat, flat_map}
use Rattle.std.specs.Option.{option_map_or}
use Rattle.std.specs.Ordering.{nat_cmp}
use Rattle.std.specs.FinMap.{FinMap, entries, get}
use Rattle.rpm_outside.specs.Files.{Units}
use Rattle.rpm_header.specs.Header.{Header, header}
use Rattle.rpm_tags.specs.Wanted.{Need}
use Rattle.rpm_version.specs.Range.{is_open}
use Rattle.rpm_db.specs.State.{Package, Good, Bad, header_or}
use Rattle.rpm_graph.specs.Networks.{Network}
use Rattle.rpm_graph.specs.Orders.{IsNextClass, Lists}
use Rattle.rpm_check.specs.declared.list.Unmet.{Unmet}
use Rattle.rpm_check.specs.Unmet.{requirements, unmet}
use Rattle.rpm_check.specs.Edges.{graph_of}
use Rattle.rpm_check.specs.declared.faults.CheckFault.{CheckFault}
use Rattle.rpm_check.specs.declared.faults.CheckFault.TheVariants as check
use Rattle.rpm_check.specs.Answers.{IsFaultOfSome}
use Rattle.rpm_qfeval.specs.Numbers.{bit_letters, depflags}
use Rattle.rpm_effects.specs.declared.tally.Halt.{Halt}
use Rattle.rpm_effects.specs.declared.tally.Halt.TheVariants as halt
use Rattle.rpm_effects.specs.declared.answer.Why.{Why}
use Rattle.rpm_effects.specs.declared.answer.Why.TheVariants as why
use Rattle.rpm_effects.specs.Progress.{Outputs, Anywhere}
use Rattle.rpm_effects.specs.Steps.{bearer, whole_step, Step, ToOut}
use Rattle.rpm_effects.specs.Portions.{Portion, nothing, fails, together}
use Rattle.rpm_print.specs.Printed.{bad_step}
use Rattle.rpm_report.specs.Labels.{header_label, package_text}
use Rattle.rpm_effects.specs.Answers.{PartIs}
use Rattle.rpm_effects.specs.Endings.{why_of_halt}

-- ---- what is said of a package

-- a number's package is read from these bytes
abbrev pub IsPackageRead : FinMap nat_cmp Package → ℕ → List ℕ → Type 0
IsPackageRead packages n bytes = (text : Header → List ℕ)
    → package_text text (get packages n) ≡ header_or text (header bytes) []

-- one part after another
abbrev pub portion_behind : Portion → Portion → Portion
portion_behind p q = record { steps = p.steps ++ q.steps; fails = p.fails || q.fails }

-- ---- packages that can't be read

-- a report has the lines of all Bad packages, by rising number, and for each of them the argument fails
abbrev pub bad_parts : FinMap nat_cmp Package → Portion
bad_parts packages = together (map (λ e. elim e.1 [ Good bytes ↦ nothing | Bad ↦ fails (bad_step 0 e.0) ])
    (entries packages))

-- ---- requirements that no package meets

-- the comparison and the version, where there are both
abbrev pub range_text : ℕ → List ℕ → List ℕ
range_text flags version = if is_open flags version then []
    else concat (codes " " ∷ bit_letters depflags flags ∷ codes " " ∷ version ∷ [])

-- a requirement that nothing meets, as a line after the package's label
unfoldable pub unmet_line : List ℕ → Need → List ℕ
unmet_line label need =
    concat (label ∷ codes ": unsatisfied: " ∷ need.name ∷ range_text need.flags need.version ∷ codes "\n" ∷ [])

-- a line tells the requirement at a place of a number's header, and there is none where there is none at that place
abbrev pub unmet_text : ℕ → ℕ → Header → List ℕ
unmet_text place n h = option_map_or (unmet_line (header_label n h)) (slice_get (requirements h) place) []

-- a package's unmet requirements have a line each
abbrev pub unmet_lines : List Unmet → ℕ → Header → List ℕ
unmet_lines row n h = flat_map (λ u. unmet_text u.place n h) row

-- a requirement that nothing meets, as a step for its package
abbrev pub unmet_step : FinMap nat_cmp Package → Unmet → Step
unmet_step packages u = ToOut (bearer 0 u.number) (package_text (unmet_text u.place u.number) (get packages u.number))

-- the report of unmet requirements: the packages that can't be read stand first, and then there is a line for each
-- requirement, and the argument fails where there is one
abbrev pub unsatisfied_part : FinMap nat_cmp Package → Portion
unsatisfied_part packages = portion_behind (bad_parts packages)
    (record { steps = map (unmet_step packages) (unmet packages); fails = not (length (unmet packages) == 0) })

-- ---- an order of installation

-- the label of a package, as a step for it: a line of its own
abbrev pub label_step : FinMap nat_cmp Package → List ℕ → ℕ → Step
label_step packages indent n = ToOut (bearer 0 n)
    (package_text (λ h. concat (indent ∷ header_label n h ∷ codes "\n" ∷ [])) (get packages n))

-- one package alone has its label; several, which all lead to each other, have how many they are, and then their labels
abbrev pub class_steps : FinMap nat_cmp Package → List ℕ → List Step
class_steps packages class =
    if length class == 1 then map (label_step packages []) class
    else ToOut (whole_step 0) (concat (codes "cycle: " ∷ decimal (length class) ∷ codes "\n" ∷ []))
    ∷ map (label_step packages (codes "  ")) class

-- the report of the order of installation: the bad packages, then class by class in their order, for which the
-- argument doesn't fail
abbrev pub order_part : FinMap nat_cmp Package → List (List ℕ) → Portion
order_part packages classes = portion_behind (bad_parts packages)
    (record { steps = flat_map (class_steps packages) classes; fails = false })

-- each class is the next one after those before it; where all are told, each number stands in one
pub record IsListed (g : Network) (all_told : Bool) (classes : List (List ℕ)) : Type 0 where
  pub each : (k : ℕ) → k < length classes → IsNextClass g (take k classes) (slice_index_or classes k [])
  pub all : all_told ≡ true → (n : ℕ) → Contains g.numbers n → Lists classes n

-- a report tells the order after the packages that can't be read
abbrev pub OrderPartIs : FinMap nat_cmp Package → Result Bool Halt → Outputs → Outputs → Type 0
OrderPartIs packages result old new = (classes : List (List ℕ)) × IsListed (graph_of packages) (is_ok result) classes
    × PartIs (order_part packages classes) result old new Anywhere

-- ---- an index that is malformed

-- a malformed index is told only with the fault of the chain of some key
abbrev pub IsOfSome : Units → Why → Type 0
IsOfSome idx given = elim given [ why.BadIndex unit ↦ IsFaultOfSome idx unit | _ ↦ Unit {0} ]

-- a question stops at the index only for a fault that some chain has
abbrev pub HaltsOfSome : Units → Halt → Type 0
HaltsOfSome idx (halt.BadIndex unit) = IsFaultOfSome idx unit
HaltsOfSome idx others = Unit {0}

-- ---- endings

-- what stops a report
abbrev pub halt_of_check : CheckFault → Halt
halt_of_check (check.BadIndex unit) = halt.BadIndex unit
halt_of_check check.DiskFault = halt.DiskFault
halt_of_check check.NoMemory = halt.NoMemory

-- a report ends with this cause, by whether its one argument failed
abbrev pub why_of_report : Result Bool Halt → Why
why_of_report (Ok fails) = if fails then why.Failed 1 else why.Done
why_of_report (Err what) = why_of_halt what
