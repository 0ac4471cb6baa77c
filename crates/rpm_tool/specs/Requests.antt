-- What a command does with the database that it opens, with its index or without: what it prints, and what it reads of
-- the packages. On it rest `plain` and `keyed` of the page (Theorem.antt), and the law `after`.
use Rattle.std.specs.Prelude.{ℕ, ◌+◌, ◌≤◌, List, [], ◌∷◌, map, Bool, true, false, nat_lt, Result}
use Rattle.std.specs.Prelude.{Ok, Err}
use Rattle.std.specs.List.{filter}
use Rattle.std.specs.Option.{option_map_or}
use Rattle.rpm_outside.specs.Files.{Units, Files}
use Rattle.rpm_pkgdb.specs.declared.slot.Damage.{Damage}
use Rattle.rpm_pkgdb.specs.Store.{Store, store}
use Rattle.rpm_pkgdb.specs.Costs.{opening_cost}
use Rattle.rpm_db.specs.Database.{without_index}
use Rattle.rpm_db.specs.State.{packages}
use Rattle.rpm_check.specs.Edges.{graph_of}
use Rattle.rpm_words.specs.Words.{word_at}
use Rattle.rpm_words.specs.Ask.{AskParts}
use Rattle.rpm_select.specs.Reach.{Reach, Everything}
use Rattle.rpm_command.specs.declared.reading.Request.{Request}
use Rattle.rpm_command.specs.declared.reading.Request.TheVariants as request
use Rattle.rpm_command.specs.Asked.{request_of}
use Rattle.rpm_effects.specs.Steps.{Bearer, Step, bearer_of, idle}
use Rattle.rpm_effects.specs.Portions.{before_others}
use Rattle.rpm_commit.specs.Changing.{FilesAnswer}
pub use Rattle.rpm_effects.specs.Answers.{CommandProgress}
use Rattle.rpm_effects.specs.Classes.{is_done}
use Rattle.rpm_report.specs.FileReport.{check_files}
use Rattle.rpm_query.specs.Queries.{query, export}
use Rattle.rpm_print.specs.Reads.{reach_sum, reached_by}
use Rattle.rpm_query.specs.Reach.{argument_reach, reaches_by}
use Rattle.rpm_report.specs.Reports.{verify}
pub use Rattle.rpm_effects.specs.Progress.{Anywhere, Outputs}
pub use Rattle.rpm_db.specs.State.{Package, State}
pub use Rattle.rpm_outside.specs.Logs.{reopened_files}
pub use Rattle.rpm_effects.specs.declared.answer.Why.{Why}
pub use Rattle.rpm_qfparse.specs.Tree.{Tree}
use Rattle.rpm_report.specs.Requirements.{unsatisfied_part, order_part, IsListed}

-- ---- what is read

-- what each argument goes over of a store, with an index or without; exports, verdicts and the report on files go over
-- all packages
abbrev pub asked_reaches : Bool → Units → Store → List (List ℕ) → AskParts → List Reach
asked_reaches indexed file s words a = elim (request_of a.mode) [
  | request.Print ↦ reaches_by (argument_reach indexed (packages file s) a.chosen) (map (word_at words) a.arguments)
  | others ↦ Everything ∷ []
]

-- the bytes of all blocks that they go over, none of a damaged store
abbrev pub blocks_cost : (Store → Bool) → Units → Result Store Damage → List (List ℕ) → AskParts → ℕ
blocks_cost indexed file (Ok s) words a = reach_sum (asked_reaches (indexed s) file s words a) (without_index s)
blocks_cost indexed file (Err damage) words a = 0

-- ---- what is done

-- how far a command went, by a file and its store: how far the order was told by the order of the graph; how much is
-- read isn't said of a report on requirements
abbrev pub RequestProgress : Request → Tree → Units → Store → List (List ℕ) → AskParts → (Bearer → Type 0) → Why
    → Outputs → Outputs → Type 0
RequestProgress asked tree file s words a reads_to given old new = elim asked [
  | request.Print ↦ CommandProgress (query tree (packages file s) words a) given old new reads_to
  | request.Export ↦ CommandProgress (export (packages file s)) given old new reads_to
  | request.Verify ↦ CommandProgress (verify file s) given old new reads_to
  | request.CheckFiles ↦ CommandProgress (check_files (packages file s)) given old new reads_to
  | request.Unmet ↦ CommandProgress (before_others (unsatisfied_part (packages file s)) idle) given old new Anywhere
  | request.Order ↦ (classes : List (List ℕ)) × IsListed (graph_of (packages file s)) (is_done given) classes
      × CommandProgress (before_others (order_part (packages file s) classes) idle) given old new Anywhere
]

-- ---- without the index, as the database reads when an open log is gone through

-- what it prints, reports and reads, where so many bytes of Packages.db were read before and then: its pages, and up to
-- a step what the arguments go over
abbrev pub PlainAnswer : Tree → List (List ℕ) → AskParts → Files → Why → Outputs → Outputs → ℕ → ℕ → Type 0
PlainAnswer tree words a files given old new before now =
    let file = (reopened_files files).pkg in
    FilesAnswer (λ s. RequestProgress (request_of a.mode) tree file s words a (λ for. now ≤ before
    + (opening_cost file + reached_by (asked_reaches false file s words a) (without_index s) for)) given old new)
    files given old new

-- the most that it reads
abbrev pub query_cost : List (List ℕ) → AskParts → Units → ℕ
query_cost words a file = opening_cost file + blocks_cost (λ s. false) file (store file) words a

-- ---- under `--after`

-- the steps less those for packages up to a number; a step for no package is above each
abbrev pub steps_above : ℕ → List Step → List Step
steps_above n = filter (λ s. option_map_or (nat_lt n) (bearer_of s).number true)
