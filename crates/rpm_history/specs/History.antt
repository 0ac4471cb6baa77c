-- Several command lines on one disk, one after the other: what the database represents after them, and after a crash.
-- On it rest `leads`, `cuts`, `kept` and `states` of `run_each`.
use Rattle.std.specs.Prelude.{◌≡◌, ◌⊎◌, ℕ, List, [], ◌∷◌, ◌++◌, Bool, true, false, ◌||◌, IsTrue, Option, Some, None}
use Rattle.std.specs.Option.{option_map_or}
use Rattle.std.specs.List.{AllByRecursion}
use Rattle.rpm_outside.specs.Files.{Files}
use Rattle.rpm_outside.specs.Logs.{reopened_files}
use Rattle.rpm_outside.specs.Shelves.{Paths}
use Rattle.rpm_db.specs.Changes.{Says}
use Rattle.rpm_db.specs.State.{State}
use Rattle.rpm_words.specs.Ask.{AskParts}
use Rattle.rpm_qfparse.specs.Tree.{Tree}
use Rattle.rpm_effects.specs.Steps.{Course, idle}
use Rattle.rpm_effects.specs.declared.answer.Outcome.{Outcome}
use Rattle.rpm_effects.specs.declared.answer.Why.{Why}
use Rattle.rpm_effects.specs.declared.answer.Why.TheVariants as why
use Rattle.rpm_history.specs.declared.several.Line.{Line}
use Rattle.rpm_command.specs.Asked.{of_files, asks}
use Rattle.rpm_command.specs.Tasks.{asked_task}
use Rattle.rpm_commit.specs.Tasks.{reads_shelf, task_course}
use Rattle.rpm_commit.specs.Lawful.{IsLawfulDatabase}
use Rattle.rpm_commit.specs.Changing.{after}

-- ---- one command line

-- what it changes: nothing, unless its command changes packages
abbrev pub course_of : Paths → ℕ → List (List ℕ) → Option (AskParts × Tree) → State → Course
course_of paths now words None s = idle
course_of paths now words (Some asked) s =
    option_map_or (λ task. task_course paths now task s) (asked_task words asked.0) idle

-- the state after a command line whose changes were all made
abbrev pub made_by : Paths → ℕ → List (List ℕ) → State → State
made_by paths now words s = after (course_of paths now words (asks words)) s

-- a line leaves this state: all its changes are made where it is done; all or none after a fault of the disk; else
-- none
abbrev pub Moves : Why → State → State → State → Type 0
Moves why.Done made s t = t ≡ made
Moves (why.Failed n) made s t = t ≡ made
Moves why.DiskFault made s t = (t ≡ s) ⊎ (t ≡ made)
Moves others made s t = t ≡ s

-- ---- several

-- a command line with its moment, and how it ended
pub record RunCall : Type 0 where
  pub words : List (List ℕ)
  pub moment : ℕ
  pub outcome : Outcome

-- the calls of run for a list of lines, each with its outcome
abbrev pub calls_of : List Line → List Outcome → List RunCall
calls_of lines [] = []
calls_of [] (outcome ∷ outcomes) = []
calls_of (line ∷ lines) (outcome ∷ outcomes) =
    record { words = line.words.now; moment = line.moment; outcome = outcome } ∷ calls_of lines outcomes

-- a list of lines leads from state s to t: by all changes of each line that was done, and none of one that was
-- refused
abbrev pub LeadsByLines : Paths → List RunCall → State → State → Type 0
LeadsByLines paths [] s t = t ≡ s
LeadsByLines paths (call ∷ calls) s t =
    (mid : State) × Moves call.outcome.why (made_by paths call.moment call.words s) s mid
    × LeadsByLines paths calls mid t

-- the first few of these lines lead from state s to t: what a crash within the lines or after them may leave
abbrev pub Cuts : Paths → List RunCall → State → State → Type 0
Cuts paths calls s t = (first rest : List RunCall) × (calls ≡ first ++ rest) × LeadsByLines paths first s t

-- ---- the shelf

-- a command that reads package files
abbrev pub uses_in : List (List ℕ) → Option (AskParts × Tree) → Bool
uses_in words None = false
uses_in words (Some asked) = of_files asked.0 || option_map_or reads_shelf (asked_task words asked.0) false

-- whether a command line reads from the shelf
abbrev pub uses_shelf : List (List ℕ) → Bool
uses_shelf words = uses_in words (asks words)

-- a shelf tells what it holds, where a line reads package files
abbrev pub TellsLines : Bool → List Line → Type 0
TellsLines tells lines = AllByRecursion (λ line. uses_shelf line.words.now ≡ true → IsTrue tells) lines

-- the shelf tells its contents wherever a line reads from it
abbrev pub TellsCalls : Bool → List RunCall → Type 0
TellsCalls tells calls = AllByRecursion (λ call. uses_shelf call.words ≡ true → IsTrue tells) calls

-- ---- images

-- a lawful image that represents such a state
pub record RepresentsState (P : State → Type 0) (image : Files) : Type 0 where
  pub lawful : IsLawfulDatabase image
  pub says : Says P (reopened_files image).pkg

-- a state to which there is such a way from that of one of these images
abbrev pub FromOneOf : (Files → Type 0) → (State → State → Type 0) → State → Type 0
FromOneOf images Way t = (from : Files) × images from × Says (λ s. Way s t) (reopened_files from).pkg

-- each of these images does
abbrev pub AllStand : (State → Type 0) → (Files → Type 0) → Type 0
AllStand P images = (image : Files) → images image → RepresentsState P image
