-- The theorem. `run` keeps all that stands here, and asks nothing. Each record is a clause of it or a field of one,
-- each field a promise. What files hold it says of disks and shelves that tell it (`tells`). A database is usable where
-- `Packages.db` isn't damaged, the log isn't malformed, and the index, if it is of their generation, has the rows of
-- the packages. A usable database is lawful where its index isn't of a later generation. A blank one needs no index.
use Rattle.std.specs.Prelude.{◌≡◌, ◌≢◌, ℕ, ◌+◌, ◌≤◌, List, [], true, false, IsTrue, Some, None, Err, Ok}
use Rattle.std.specs.Option.{option_map_or}
use Rattle.std.specs.Ordering.{nat_cmp}
use Rattle.std.specs.FinMap.{FinMap}
use Rattle.rpm_outside.specs.declared.disk.Disk as disk
use Rattle.rpm_outside.specs.declared.shelf.Shelf as shelf
use Rattle.rpm_outside.specs.declared.sink.Sink as sink
use Rattle.rpm_outside.specs.Causes.{HasCauseAt}
use Rattle.rpm_outside.specs.Shelves.{Paths}
use Rattle.rpm_select.specs.Selections.{picks}
use Rattle.rpm_select.specs.declared.selection.Selection.TheVariants as question
use Rattle.rpm_words.specs.declared.fault.WordsFault.{WordsFault}
use Rattle.rpm_words.specs.declared.fault.WordsKind.TheVariants as kind
use Rattle.rpm_words.specs.Ask.{AskParts, ask}
use Rattle.rpm_qfparse.specs.declared.fault.FormatFault.{FormatFault}
use Rattle.rpm_qfparse.specs.declared.fault.FormatKind.TheVariants as wrong
use Rattle.rpm_effects.specs.declared.answer.Why.TheVariants as why
use Rattle.rpm_effects.specs.Classes.{is_done, is_done_or_outside, is_foreign}
use Rattle.rpm_command.specs.Answers.{ComesWhere}
use Rattle.rpm_command.specs.Asked.{is_query, of_files, by_key, asks_change, asks_format, asks}
use Rattle.rpm_command.specs.Tasks.{TaskParts, asked_task}
use Rattle.rpm_outside.specs.Frame.{images, CrashLeaves}
use Rattle.rpm_print.specs.Frame.{pkg_read, OnlyReadsPackages}
use Rattle.rpm_command.specs.Texts.{text_of}
use Rattle.rpm_print.specs.Texts.{text_course}
use Rattle.rpm_query.specs.PackageFiles.{query_files}
use Rattle.rpm_query.specs.Queries.{picked_packages, argument_part, query, query_of, AreOfEach, AreQuestions}
use Rattle.rpm_commit.specs.Changing.{EmptyBy}
use Rattle.rpm_commit.specs.Tasks.{needs_none, reads_shelf, task_course}
use Rattle.rpm_tool.specs.Requests.{Anywhere, CommandProgress, Package, PlainAnswer, query_cost, reopened_files}
use Rattle.rpm_tool.specs.Requests.{steps_above, Tree, Why}
use Rattle.rpm_tool.specs.Keyed.{AreLawfulDatabases, Chosen, IsUsableDatabase, KeepsLog, KeepsPackages, IsLawfulAndSame}
use Rattle.rpm_tool.specs.Keyed.{IsAtRest, HasClosedIndex, KeyedAnswer, IndexFullIs, BadIs, HasRoom, keyed_cost}
-- One run: its words, how it ended, what it found and left of the disk, what out and err had taken before and after.
pub use Rattle.rpm_commit.specs.Run.{Run, ran}
pub use Rattle.rpm_commit.specs.Answers.{AnswersChange}

-- What a run has beside the disk: its moment, and the shelf as it was found and as it was left.
pub record Setting {S : Type 0} (s : shelf.Ghosts S) : Type 0 where
  pub moment : ℕ
  pub shelf : S
  pub shelf_left : S

-- a run at this moment, of a shelf as it was found and as it was left
abbrev pub setting_at : {S : Type 0} (s : shelf.Ghosts S) → ℕ → S × S → Setting s
setting_at s now shelves = record { moment = now; shelf = shelves.0; shelf_left = shelves.1 }

-- 1. WORDS that break a rule, and a format that has a fault, are answered so, exactly there, with the first.
pub record AnswersWords (words : List (List ℕ)) (given : Why) : Type 0 where
  pub usage : (f : WordsFault) → ComesWhere (why.Usage f) given (ask words ≡ Err f)
  pub usage_kind : (f : WordsFault) → given ≡ why.Usage f → f.kind ≢ kind.NoMemory
  pub bad_format : (f : FormatFault) → ComesWhere (why.BadFormat f) given (asks_format words ≡ Some (Err f))
  pub bad_format_kind : (f : FormatFault) → given ≡ why.BadFormat f → f.kind ≢ wrong.NoMemory

-- 2. PLAIN QUESTIONS ask no index. `after` is what out and err took by the end, before the closing line.
pub record AnswersPlain {D : Type 0} {d : disk.Ghosts D} (r : Run d) (a : AskParts) (tree : Tree) : Type 0 where
  pub went : PlainAnswer tree r.words a (d.files r.found) r.why r.before r.after (pkg_read d r.found)
      (pkg_read d r.left)
  pub reads : pkg_read d r.left ≤ pkg_read d r.found + query_cost r.words a (reopened_files (d.files r.found)).pkg

module _ {D S : Type 0} {d : disk.Ghosts D} {s : shelf.Ghosts S} where
  -- 3. PACKAGE FILES are queried with no call on the disk.
  pub record AnswersOfFiles (r : Run d) (at : Setting s) (a : AskParts) (tree : Tree) : Type 0 where
    pub went : IsTrue s.tells
        → CommandProgress (query_files tree (s.paths at.shelf) r.words a) r.why r.before r.after Anywhere
    pub disk_unread : r.left ≡ r.found

  -- 4. TEXTS on the program itself, its help and its version, are printed with no call on disk and shelf.
  pub record AnswersText (r : Run d) (at : Setting s) (text : List ℕ) : Type 0 where
    pub went : CommandProgress (text_course text) r.why r.before r.after Anywhere
    pub unread : (r.left ≡ r.found) × (at.shelf_left ≡ at.shelf)

-- 5. QUESTIONS BY KEY, and reports on requirements, finish what a crash left, and make a stale index anew. Whatever
-- they answer, a malformed log stays with the files beside it, and no other becomes malformed (`kept`). Where there
-- is nothing to finish or to make, no file changes (`still`). A crash leaves the packages, and the log in the same
-- way, whatever the index holds (`leaves`).
pub record AnswersKeyed {D : Type 0} {d : disk.Ghosts D} (r : Run d) (a : AskParts) (tree : Tree) : Type 0 where
  pub went : KeyedAnswer tree r.words a (d.files r.found) r.why r.before r.after (pkg_read d r.found)
      (pkg_read d r.left)
  pub reads : is_query a.mode ≡ true → IsUsableDatabase (d.files r.found)
      → pkg_read d r.left ≤ pkg_read d r.found + keyed_cost (reopened_files (d.files r.found)) r.words a
  pub kind : is_foreign r.why ≡ false
  pub index_full : IndexFullIs (reopened_files (d.files r.found)) r.why
  pub bad_index : BadIs r.words a (reopened_files (d.files r.found)) r.why
  pub complete : IsUsableDatabase (d.files r.found) → HasRoom (reopened_files (d.files r.found))
      → is_done_or_outside r.why ≡ true
  pub index : IsUsableDatabase (d.files r.found) → is_done r.why ≡ true → HasClosedIndex (d.files r.left)
  pub packages : (reopened_files (d.files r.left)).pkg ≡ (reopened_files (d.files r.found)).pkg
  pub kept : KeepsLog (d.files r.found) (d.files r.left)
  pub still : IsAtRest (d.files r.found) → d.files r.left ≡ d.files r.found
  pub leaves : CrashLeaves d r.found r.left (KeepsPackages (images d r.found))
  pub crashes : AreLawfulDatabases (images d r.found)
      → CrashLeaves d r.found r.left (IsLawfulAndSame (images d r.found))

-- 6. CHANGES of a command are one transaction: all made and counted, or none. `AnswersChange`, in Answers.antt of
-- `rpm_commit`, has what they print (`did`) and leave, also in a crash (`changed`: `ChangesWith`), which limit is
-- answered (`limits`, `log`), and when the disk failed (`fault`).

module _ {D S : Type 0} {d : disk.Ghosts D} {s : shelf.Ghosts S} where
  -- What is done for a command that was read, by its kind.
  pub record AnswersCommand (r : Run d) (at : Setting s) (a : AskParts) (tree : Tree) : Type 0 where
    pub plain : of_files a ≡ false → by_key a ≡ false → asked_task r.words a ≡ None → text_of a.mode ≡ None
        → IsTrue d.tells → AnswersPlain r a tree
    pub files : of_files a ≡ true → AnswersOfFiles r at a tree
    pub text : (text : List ℕ) → text_of a.mode ≡ Some text → AnswersText r at text
    pub keyed : by_key a ≡ true → IsTrue d.tells → AnswersKeyed r a tree
    pub changes : (task : TaskParts) → asked_task r.words a ≡ Some task → IsTrue d.tells
        → (reads_shelf task ≡ true → IsTrue s.tells)
        → AnswersChange r task (task_course (s.paths at.shelf) at.moment task)
    pub empty : (task : TaskParts) → asked_task r.words a ≡ Some task → IsTrue d.tells
        → EmptyBy (needs_none task) (reopened_files (d.files r.found)) r.why
    pub looks : by_key a ≡ false → asked_task r.words a ≡ None → OnlyReadsPackages d r.found r.left
    pub shelf_unread : of_files a ≡ false → option_map_or reads_shelf (asked_task r.words a) false ≡ false → at.shelf_left ≡ at.shelf

  -- What `run` answers for all words.
  pub record Answers (r : Run d) (at : Setting s) : Type 0 where
    pub asked : (a : AskParts) (tree : Tree) → asks r.words ≡ Some (a, tree) → AnswersCommand r at a tree
    pub unasked : asks r.words ≡ None → r.after ≡ r.before
    pub idle : asks_change r.words ≡ false → r.changes ≡ 0
    pub counted : is_done r.why ≡ false → r.changes ≡ 0
    pub paths : IsTrue s.tells → s.paths at.shelf_left ≡ s.paths at.shelf
    pub goes_on : d.follows r.found r.left

-- 7. CAUSES. A fault is answered only where its object counted one.
pub record Causes {D S O E : Type 0} (d : disk.Ghosts D) (s : shelf.Ghosts S) (o : sink.Ghosts O)
    (e : sink.Ghosts E) (given : Why) (old new : D × S × O × E) : Type 0 where
  pub disk : HasCauseAt (given ≡ why.DiskFault) (d.faults old.0) (d.faults new.0)
  pub shelf : HasCauseAt (given ≡ why.ShelfFault) (s.faults old.1) (s.faults new.1)
  pub out : HasCauseAt (given ≡ why.OutFault) (o.faults old.2) (o.faults new.2)
  pub err : HasCauseAt (given ≡ why.ErrFault) (e.faults old.3) (e.faults new.3)

-- 8. LAWS of the words and of what is picked.
pub record Laws (words : List (List ℕ)) : Type 0 where
  -- `--after` leaves out the steps for packages up to its number, and no others; with package files none
  pub after : (tree : Tree) (packages : FinMap nat_cmp Package) (a : AskParts)
      → (query tree packages words a).steps ≡ steps_above a.after (query tree packages words (record a { after = 0 })).steps
  pub files_after : (tree : Tree) (paths : Paths) (n : ℕ) (a : AskParts)
      → query_files tree paths words (record a { after = n }) ≡ query_files tree paths words a
  -- an argument's packages are those that it picks above `--after`, each once and rising
  pub numbers : (tree : Tree) (packages : FinMap nat_cmp Package) (chosen : Chosen) (after j : ℕ) (text : List ℕ)
      → AreOfEach after (picked_packages packages chosen text) (argument_part tree packages chosen after j text).steps
  -- and those of a query without arguments all above it
  pub all_numbers : (tree : Tree) (packages : FinMap nat_cmp Package) (chosen : Chosen) (after : ℕ)
      → AreOfEach after (picks packages question.All) (query_of tree packages chosen after []).steps
  -- no argument of a query goes unasked
  pub questions : (a : AskParts) → ask words ≡ Ok a → is_query a.mode ≡ true → of_files a ≡ false → AreQuestions words a
