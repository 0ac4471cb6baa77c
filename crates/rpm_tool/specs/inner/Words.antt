-- Parts of what a question answers and reads, as the functions below `run` and proofs name them.
use Rattle.std.specs.Prelude.{◌≡◌, ℕ, ◌+◌, ◌^◌, ◌<◌, ◌≤◌, ◌==◌, List, [], ◌∷◌, map, Bool, true, false, not, nat_lt}
use Rattle.std.specs.Prelude.{Option}
use Rattle.std.specs.Option.{option_map_or}
use Rattle.std.specs.Ordering.{nat_cmp}
use Rattle.std.specs.FinMap.{FinMap}
use Rattle.rpm_outside.specs.Files.{Units, Files}
use Rattle.rpm_pkgdb.specs.Store.{Store, store}
use Rattle.rpm_pkgdb.specs.Costs.{opening_cost}
use Rattle.rpm_db.specs.Database.{without_index}
use Rattle.rpm_db.specs.Openings.{rebuilding_cost}
use Rattle.rpm_db.specs.State.{Package}
use Rattle.rpm_words.specs.Words.{word_at}
use Rattle.rpm_words.specs.Ask.{AskParts}
use Rattle.rpm_words.specs.declared.switch.Chosen.{Chosen}
use Rattle.rpm_qfparse.specs.Tree.{Tree}
use Rattle.rpm_select.specs.Reach.{Reach, Everything}
use Rattle.rpm_effects.specs.declared.answer.Why.{Why}
use Rattle.rpm_effects.specs.declared.answer.Why.TheVariants as why
use Rattle.rpm_effects.specs.Classes.{is_refusal}
use Rattle.rpm_effects.specs.Progress.{Outputs, Through}
use Rattle.rpm_effects.specs.Steps.{Bearer}
use Rattle.rpm_command.specs.declared.reading.Request.{Request}
use Rattle.rpm_command.specs.declared.reading.Request.TheVariants as request
use Rattle.rpm_command.specs.Asked.{request_of}
use Rattle.rpm_print.specs.Reads.{reached_by}
use Rattle.rpm_query.specs.Reach.{argument_reach, reaches_by, IsOfChains}
use Rattle.rpm_report.specs.Requirements.{IsOfSome}
use Rattle.rpm_commit.specs.laws.Words.{StoreAnswerBy}
use Rattle.rpm_tool.specs.Requests.{RequestProgress, asked_reaches}

-- what each argument goes over, with an index or without; exports, verdicts and the report on files go over all
-- packages
abbrev pub reaches_of : Request → Bool → FinMap nat_cmp Package → List (List ℕ) → AskParts → List Reach
reaches_of asked indexed packages words a = elim asked [
  | request.Print ↦ reaches_by (argument_reach indexed packages a.chosen) (map (word_at words) a.arguments)
  | others ↦ Everything ∷ []
]

-- a step for no package is above each number
abbrev pub is_above : ℕ → Option ℕ → Bool
is_above n o = option_map_or (nat_lt n) o true

-- ---- without the index

-- the most that is read of Packages.db up to a step, its pages with it
abbrev pub read_to : Units → List (List ℕ) → AskParts → Store → Bearer → ℕ
read_to file words a s for = opening_cost file + reached_by (asked_reaches false file s words a) (without_index s) for

-- what it prints, of a file of which so many bytes were read before and then
abbrev pub PlainProgress : Tree → List (List ℕ) → AskParts → Units → ℕ → ℕ → StoreAnswerBy
PlainProgress tree words a file before now s given old new =
    RequestProgress (request_of a.mode) tree file s words a
    (λ for. now ≤ before + read_to file words a s for) given old new

-- ---- with the index

-- an index that has to be made may be too large, and then nothing is done
abbrev pub UnlessFull : (Why → Outputs → Outputs → Type 0) → Why → Outputs → Outputs → Type 0
UnlessFull Do given old new =
    elim given [ why.IndexFull needed ↦ Through [] old new | others ↦ Do others old new ]

-- a question is answered on a usable database; of any that can be read no damage is told
abbrev pub OnUsable : Type 0 → StoreAnswerBy → StoreAnswerBy
OnUsable Usable Do s given old new = (is_refusal given ≡ false) × (Usable → UnlessFull (Do s) given old new)

-- what is said where an index must be made, or needn't, that needs so many units
abbrev pub FullByUnits : Bool → ℕ → Why → Type 0
FullByUnits making needed (why.IndexFull said) = (making ≡ true) × (2 ^ 28 < needed) × (said ≡ needed)
FullByUnits making needed why.DiskFault = Unit {0}
FullByUnits making needed why.NoMemory = Unit {0}
FullByUnits making needed (why.BadLog unit) = Unit {0}
FullByUnits making needed others = making ≡ true → needed ≤ 2 ^ 28

-- what a malformed index is told with: of a query the fault of the chain of a key that is asked, of a report that of
-- some key
abbrev pub CauseBy : Request → Chosen → List (List ℕ) → Units → Why → Type 0
CauseBy asked chosen texts idx given =
    elim asked [ request.Print ↦ IsOfChains chosen texts idx given | others ↦ IsOfSome idx given ]

-- a question by key blames the index only for a chain that it asks
abbrev pub CauseIs : List (List ℕ) → AskParts → Units → Why → Type 0
CauseIs words a idx given = CauseBy (request_of a.mode) a.chosen (map (word_at words) a.arguments) idx given

-- a database has its index unless it is blank
abbrev pub has_index : Store → Bool
has_index s = not (s.pages == 0)

-- a question reads this much up to a step: the pages, the packages where the index must be made of them, and those
-- that the arguments go over
abbrev pub keyed_to : Files → List (List ℕ) → AskParts → Store → Bearer → ℕ
keyed_to files words a s for = opening_cost files.pkg + rebuilding_cost files.idx (store files.pkg)
    + reached_by (asked_reaches (has_index s) files.pkg s words a) (without_index s) for

-- a question by key is answered on these files, of whose Packages.db so many bytes were read before and then
abbrev pub KeyedProgress : Tree → List (List ℕ) → AskParts → Files → ℕ → ℕ → StoreAnswerBy
KeyedProgress tree words a r before now s given old new =
    RequestProgress (request_of a.mode) tree r.pkg s words a
    (λ for. now ≤ before + keyed_to r words a s for) given old new
