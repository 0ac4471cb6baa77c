-- What command lines ask for, and by which format they print: by it `asked` of the page (`rpm_tool`, Theorem.antt)
-- tells commands apart.
use Rattle.std.specs.Prelude.{◌≡◌, ℕ, List, Option, Some, None, Result, Ok, Err, Bool, true, false, not, ◌&&◌}
use Rattle.std.specs.Prelude.{if◌then◌else◌, codes, is_some}
use Rattle.std.specs.Option.{option_map_or}
use Rattle.rpm_words.specs.declared.ask.Mode.{Mode}
use Rattle.rpm_words.specs.declared.ask.Mode.TheVariants.{Query, Verify, Verifydb, Exportdb, Order, Checkfiles}
use Rattle.rpm_words.specs.declared.switch.Chosen.{Chosen}
use Rattle.rpm_words.specs.declared.switch.Chosen.TheVariants.{All, Number, Package}
use Rattle.rpm_words.specs.Words.{bytes_from}
use Rattle.rpm_words.specs.Ask.{AskParts, ask}
use Rattle.rpm_qfparse.specs.declared.fault.FormatFault.{FormatFault}
use Rattle.rpm_qfparse.specs.Tree.{Tree}
use Rattle.rpm_qfparse.specs.Format.{format}
use Rattle.rpm_command.specs.declared.reading.Request.{Request}
use Rattle.rpm_command.specs.declared.reading.Request.TheVariants as request
use Rattle.rpm_command.specs.declared.reading.Kind.{Kind}
use Rattle.rpm_command.specs.declared.reading.Kind.TheVariants as kind
use Rattle.rpm_command.specs.Tasks.{asked_task, task_parts, IsCountable}
use Rattle.rpm_command.specs.Texts.{text_of}

-- what a command does with the database that it opens
abbrev pub request_of : Mode → Request
request_of Exportdb = request.Export
request_of Verifydb = request.Verify
request_of Checkfiles = request.CheckFiles
request_of Verify = request.Unmet
request_of Order = request.Order
request_of others = request.Print

-- a command prints packages, by the format or as they are
abbrev pub prints_packages : Request → Bool
prints_packages request.Print = true
prints_packages request.Export = true
prints_packages others = false

-- the reports on requirements open the database with its index, whatever the words say
abbrev pub always_keyed : Request → Bool
always_keyed request.Unmet = true
always_keyed request.Order = true
always_keyed others = false

-- a query that asks no index: of package files, of all packages, of patterns and of numbers always, else where the
-- words say so
abbrev pub needs_no_index : Chosen → Bool → Bool
needs_no_index chosen noindex = elim chosen [ All ↦ true | Number ↦ true | Package ↦ true | _ ↦ noindex ]

-- whether a mode is the one that prints packages
abbrev pub is_query : Mode → Bool
is_query mode = elim mode [ Query ↦ true | _ ↦ false ]

-- the command is a question by key or a report on requirements: it opens the database with its index, and changes no
-- package. A query does so where it asks for the index, and the reports on requirements always do.
abbrev pub by_key : AskParts → Bool
by_key a = elim a.mode
    [ Query ↦ not (needs_no_index a.chosen a.noindex) | Verify ↦ true | Order ↦ true | _ ↦ false ]

-- whether a command line asks for a change of the database: the words break no rule, and ask for a task
unfoldable pub asks_change : List (List ℕ) → Bool
asks_change words = elim (ask words) [ Ok a ↦ is_some (asked_task words a) | Err f ↦ false ]

-- a query of package files, which opens no database
abbrev pub of_files : AskParts → Bool
of_files a = is_query a.mode && elim a.chosen [ Package ↦ true | _ ↦ false ]

-- the command is of this kind: what it changes, what else it is and isn't, what it does with the database that it opens,
-- and which text it prints
abbrev pub KindIs : Kind → List (List ℕ) → AskParts → Type 0
KindIs (kind.Change task) words a = (asked_task words a ≡ Some (task_parts task)) × IsCountable (task_parts task)
KindIs kind.Files words a = (asked_task words a ≡ None) × (of_files a ≡ true)
KindIs (kind.Keyed d) words a =
    (asked_task words a ≡ None) × (of_files a ≡ false) × (by_key a ≡ true) × (d ≡ request_of a.mode)
KindIs (kind.Plain d) words a =
    (asked_task words a ≡ None) × (of_files a ≡ false) × (by_key a ≡ false) × (d ≡ request_of a.mode)
    × (text_of a.mode ≡ None)
KindIs (kind.Text text) words a = (asked_task words a ≡ None) × (of_files a ≡ false) × (by_key a ≡ false)
    × (text_of a.mode ≡ Some text.now)

-- ---- the format

-- where none is given: the label
unfoldable pub label_format : List ℕ
label_format = codes "%{NVRA}\\n"

-- the format of `-l` prints the files, a line each, or that there are none
unfoldable pub list_format : List ℕ
list_format = codes "%|FILENAMES?{[%{FILENAMES}\\n]}:{(contains no files)\\n}|"

-- a command's format is the one that is given last among `-l` and the options that give one, and so a command never
-- has both; a word that gives one does so from where it begins
abbrev pub format_text : List (List ℕ) → AskParts → List ℕ
format_text words a = if a.lists then list_format else option_map_or (bytes_from words) a.format label_format

-- the words break no rule, and their format is this tree or has this fault
unfoldable pub asks_format : List (List ℕ) → Option (Result Tree FormatFault)
asks_format words = elim (ask words) [ Ok a ↦ Some (format (format_text words a)) | Err f ↦ None ]

-- the words ask for this command, by this format, where both can be read
unfoldable pub asks : List (List ℕ) → Option (AskParts × Tree)
asks words = elim (ask words)
    [ Ok a ↦ elim (asks_format words) [ Some (Ok tree) ↦ Some (a, tree) | _ ↦ None ] | Err f ↦ None ]
