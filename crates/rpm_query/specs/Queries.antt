-- What a query does: what is printed of each package that it picks. On it rest the courses under `plain` and `keyed` of
-- the page (`rpm_tool`, Theorem.antt), and its laws `numbers` and `questions`.
use Rattle.std.specs.Prelude.{◌≡◌, ℕ, List, [], ◌∷◌, map, codes, Bool, true, Option, Some, None, is_some, Result, Ok}
use Rattle.std.specs.Prelude.{Err}
use Rattle.std.specs.Borrow.{Bor}
use Rattle.std.specs.Option.{option_map, option_map_or}
use Rattle.std.specs.Result.{result_ok}
use Rattle.std.specs.List.{concat, AllByRecursion}
use Rattle.std.specs.Ordering.{nat_cmp}
use Rattle.std.specs.FinMap.{FinMap}
use Rattle.rpm_version.specs.Capability.{capability}
use Rattle.rpm_words.specs.declared.switch.Chosen.{Chosen}
use Rattle.rpm_words.specs.declared.switch.Chosen.TheVariants as by
use Rattle.rpm_words.specs.Number.{number}
use Rattle.rpm_words.specs.Words.{word_at}
use Rattle.rpm_words.specs.Ask.{AskParts}
use Rattle.rpm_qfparse.specs.Tree.{Tree}
use Rattle.rpm_db.specs.State.{Package, above, packages}
use Rattle.rpm_select.specs.declared.selection.Selection.{Selection}
use Rattle.rpm_select.specs.declared.selection.Selection.TheVariants as question
use Rattle.rpm_select.specs.Selections.{picks}
use Rattle.rpm_effects.specs.Steps.{whole_step, Step, ToOut, ToErr, Course, idle}
use Rattle.rpm_effects.specs.Portions.{Portion, nothing, fails, before_others, parts_in_turn, numbers_of_steps}
use Rattle.rpm_effects.specs.Portions.{RisesFrom}
use Rattle.rpm_print.specs.Printed.{packages_part, step_of, exported_step}
use Rattle.rpm_effects.specs.declared.tally.Halt.{Halt}
use Rattle.rpm_query.specs.declared.printing.PrintedPackages.{PrintedPackages}

-- ---- an argument

-- a text that lies nowhere
abbrev pub lent : List ℕ → Bor (List ℕ)
lent text = record { ref_ptr = (0, 0); now = text }

-- the question that an argument is. Of words that break no rule each number and each capability is one.
abbrev pub question_of : Chosen → Bor (List ℕ) → Option Selection
question_of by.Label x = Some (question.Label x)
question_of by.All x = Some (question.Pattern x)
question_of by.Path x = Some (question.Path x)
question_of by.Group x = Some (question.Group x)
question_of by.Package x = None
question_of by.Provides x = option_map question.Provides (result_ok (capability x.now))
question_of by.Requires x = option_map question.Requires (result_ok (capability x.now))
question_of by.Conflicts x = option_map question.Conflicts (result_ok (capability x.now))
question_of by.Obsoletes x = option_map question.Obsoletes (result_ok (capability x.now))
question_of by.Trigger x = Some (question.Trigger x)
question_of by.Number x = option_map question.Number (number x.now)
question_of by.Directory x = Some (question.Directory x)
question_of by.Tid x = option_map question.Tid (number x.now)
question_of by.Recommends x = option_map question.Recommends (result_ok (capability x.now))

-- each argument is a question
abbrev pub AreQuestions : List (List ℕ) → AskParts → Type 0
AreQuestions words a = AllByRecursion (λ w. is_some (question_of a.chosen (lent (word_at words w))) ≡ true) a.arguments

-- the packages that an argument picks, by rising number, and none where it is no question
unfoldable pub picked_packages : FinMap nat_cmp Package → Chosen → List ℕ → List (ℕ × Package)
picked_packages packages chosen text = option_map_or (picks packages) (question_of chosen (lent text)) []

-- an argument that picks nothing, as a line on standard output
abbrev pub missing_line_part : ℕ → List ℕ → List ℕ → List ℕ → Portion
missing_line_part j front text back = fails (ToOut (whole_step j) (concat (front ∷ text ∷ back ∷ [])))

-- the line of an argument that picks nothing, whatever was passed over: that of a record that isn't there on standard
-- error; all packages, patterns and package files have none
unfoldable pub missing_part : Chosen → ℕ → List ℕ → Portion
missing_part by.Label j x = missing_line_part j (codes "package ") x (codes " is not installed\n")
missing_part by.Path j x = missing_line_part j (codes "file ") x (codes " is not owned by any package\n")
missing_part by.Group j x = missing_line_part j (codes "group ") x (codes " does not contain any packages\n")
missing_part by.Provides j x = missing_line_part j (codes "no package provides ") x (codes "\n")
missing_part by.Requires j x = missing_line_part j (codes "no package requires ") x (codes "\n")
missing_part by.Conflicts j x = missing_line_part j (codes "no package conflicts ") x (codes "\n")
missing_part by.Obsoletes j x = missing_line_part j (codes "no package obsoletes ") x (codes "\n")
missing_part by.Trigger j x = missing_line_part j (codes "no package triggers ") x (codes "\n")
missing_part by.Number j x =
    fails (ToErr (whole_step j) (concat (codes "error: record " ∷ x ∷ codes " could not be read\n" ∷ [])))
missing_part by.Directory j x = missing_line_part j (codes "no package has files in ") x (codes "\n")
missing_part by.Tid j x = missing_line_part j (codes "no package has transaction ") x (codes "\n")
missing_part by.Recommends j x = missing_line_part j (codes "no package recommends ") x (codes "\n")
missing_part others j x = nothing

-- what is printed for an argument, given what it picks
abbrev pub answered_part : Tree → Chosen → ℕ → ℕ → List ℕ → List (ℕ × Package) → Portion
answered_part tree chosen after j text [] = missing_part chosen j text
answered_part tree chosen after j text (e ∷ es) = packages_part (step_of tree j) after (e ∷ es)

-- what is printed for one argument of a question
abbrev pub argument_part : Tree → FinMap nat_cmp Package → Chosen → ℕ → ℕ → List ℕ → Portion
argument_part tree packages chosen after j text =
    answered_part tree chosen after j text (picked_packages packages chosen text)

-- whether the argument fails, of what was printed of its packages
abbrev pub fails_in : Result PrintedPackages Halt → Result Bool Halt
fails_in (Ok p) = Ok p.fails
fails_in (Err stop) = Err stop

-- ---- a query of the database

-- a query without arguments is of all packages, and counts as one
abbrev pub query_of : Tree → FinMap nat_cmp Package → Chosen → ℕ → List (List ℕ) → Course
query_of tree packages chosen after [] =
    before_others (packages_part (step_of tree 0) after (picks packages question.All)) idle
query_of tree packages chosen after (x ∷ xs) = parts_in_turn (argument_part tree packages chosen after) 0 (x ∷ xs)

-- a query has this course by its words
abbrev pub query : Tree → FinMap nat_cmp Package → List (List ℕ) → AskParts → Course
query tree packages words a = query_of tree packages a.chosen a.after (map (word_at words) a.arguments)

-- an export: all packages, by rising number
abbrev pub export : FinMap nat_cmp Package → Course
export packages = before_others (packages_part (exported_step 0) 0 (picks packages question.All)) idle

-- ---- whom steps are for

-- a list of steps bears the numbers of these packages above a number, each once and rising
abbrev pub AreOfEach : ℕ → List (ℕ × Package) → List Step → Type 0
AreOfEach after packages steps =
    (numbers_of_steps steps ≡ map (λ e. e.0) (above after packages))
    × RisesFrom after (map (λ e. e.0) (above after packages))
