-- Questions by key and the reports on requirements, which open the database with its index and change no package: what
-- they answer and leave. On it rests `keyed` of the page (Theorem.antt).
use Rattle.std.specs.Prelude.{◌≡◌, ◌⊎◌, ℕ, ◌+◌, ◌^◌, ◌<◌, ◌≤◌, List, [], map, true, false, not, ◌==◌, ◌||◌, Ok}
use Rattle.std.specs.Prelude.{IsTrue}
use Rattle.std.proofs.Common.{inl, inr, refl}
use Rattle.rpm_outside.specs.declared.disk.Disk as disk
use Rattle.rpm_outside.specs.Files.{Units, Files}
use Rattle.rpm_outside.specs.Logs.{Closed, log_state, reopened_files}
use Rattle.rpm_group.specs.Loads.{IsSound}
use Rattle.rpm_pkgdb.specs.Store.{Store, blank_store, store}
use Rattle.rpm_pkgdb.specs.Costs.{opening_cost}
use Rattle.rpm_db.specs.Database.{Database, is_indexed, without_index}
use Rattle.rpm_db.specs.Database.{store_of}
use Rattle.rpm_db.specs.State.{packages}
use Rattle.rpm_db.specs.Lawful.{HasRows, IsLawful, is_current_at}
use Rattle.rpm_db.specs.Openings.{must_rebuild, units_needed, rebuilding_cost}
use Rattle.rpm_words.specs.Words.{word_at}
use Rattle.rpm_words.specs.Ask.{AskParts}
use Rattle.rpm_qfparse.specs.Tree.{Tree}
use Rattle.rpm_effects.specs.declared.answer.Why.{Why}
use Rattle.rpm_effects.specs.declared.answer.Why.TheVariants as why
use Rattle.rpm_command.specs.declared.reading.Request.{Request}
use Rattle.rpm_command.specs.declared.reading.Request.TheVariants as request
use Rattle.rpm_command.specs.Asked.{always_keyed, request_of}
use Rattle.rpm_report.specs.Requirements.{IsOfSome}
use Rattle.rpm_select.specs.Frame.{HasKeptRows as HasIndexRows}
use Rattle.rpm_db.specs.Frame.{packages_in}
use Rattle.rpm_print.specs.Frame.{OnlyReadsIndexed, pkg_read}
use Rattle.rpm_print.specs.Reads.{reach_sum, reached_by}
use Rattle.rpm_query.specs.Reach.{IsOfChains}
use Rattle.rpm_effects.specs.Progress.{Outputs, Through}
use Rattle.rpm_effects.specs.Classes.{is_refusal}
use Rattle.rpm_commit.specs.Changing.{FilesAnswer}
use Rattle.rpm_tool.specs.Requests.{RequestProgress, asked_reaches, blocks_cost}
use Rattle.rpm_tool.specs.inner.Words.{CauseBy, reaches_of}
pub use Rattle.rpm_commit.specs.Lawful.{AreLawfulDatabases, HasClosedIndex, HasUsableIndex, IsLawfulDatabase}
pub use Rattle.rpm_commit.specs.Lawful.{IsLawfulAndSame, KeepsPackages}
pub use Rattle.rpm_group.specs.Crashes.{KeepsLog}
pub use Rattle.rpm_words.specs.declared.switch.Chosen.{Chosen}

-- ---- an index that is ready

-- nothing is left of a change, and no index must be made, whatever the one that is there holds
pub record IsAtRest (files : Files) : Type 0 where
  pub closed : log_state files.log ≡ Closed
  pub made : must_rebuild files.idx (store files.pkg) ≡ false

-- the store isn't damaged, and the index has the rows of the packages where it is current; a database that is blank
-- needs none
pub record IsUsable (pkg idx : Units) : Type 0 where
  pub value : Store
  pub undamaged : store pkg ≡ Ok value
  pub index : is_current_at value.generation idx ≡ true → (value.pages ≡ 0) ⊎ HasRows (packages pkg value) idx

-- a lawful database is usable
pub lawful_usable : (pkg idx : Units) → IsLawful pkg idx → IsUsable pkg idx
lawful_usable pkg idx (inl blank) = record { value = blank_store; undamaged = blank; index = λ current. inl refl }
lawful_usable pkg idx (inr made) =
    record { value = made.0; undamaged = made.1; index = λ current. inr (made.2.rows_are current) }

-- files represent a usable database: their log is closed, or has a transaction that makes it of them
pub record IsUsableDatabase (files : Files) : Type 0 where
  pub sound : IsSound (log_state files.log)
  pub usable : IsUsable (reopened_files files).pkg (reopened_files files).idx

-- ---- the endings

-- an index that must be made has room
abbrev pub HasRoom : Files → Type 0
HasRoom files = must_rebuild files.idx (store files.pkg) ≡ true → units_needed files.pkg (store files.pkg) ≤ 2 ^ 28

-- the index is full exactly where it must be made and needs too many units; a malformed log, a fault of the disk or
-- want of memory may come before
abbrev pub IndexFullIs : Files → Why → Type 0
IndexFullIs files (why.IndexFull said) = (must_rebuild files.idx (store files.pkg) ≡ true)
    × (2 ^ 28 < units_needed files.pkg (store files.pkg)) × (said ≡ units_needed files.pkg (store files.pkg))
IndexFullIs files why.DiskFault = Unit {0}
IndexFullIs files why.NoMemory = Unit {0}
IndexFullIs files (why.BadLog unit) = Unit {0}
IndexFullIs files others = HasRoom files

-- a malformed index is told only where it is current: of a query with the fault of the chain of a key that it asks, of a
-- report with that of some key
abbrev pub BadIs : List (List ℕ) → AskParts → Files → Why → Type 0
BadIs words a files (why.BadIndex unit) = (s : Store) × (store files.pkg ≡ Ok s)
    × (is_current_at s.generation files.idx ≡ true) × (elim (request_of a.mode) [
      | request.Print ↦ IsOfChains a.chosen (map (word_at words) a.arguments) files.idx (why.BadIndex unit)
      | others ↦ IsOfSome files.idx (why.BadIndex unit)
    ])
BadIs words a files others = Unit {0}

-- ---- what is read

-- a question reads this much in all: the pages, the packages where the index must be made of them, and those that the
-- arguments go over, with an index unless the database is blank
abbrev pub keyed_cost : Files → List (List ℕ) → AskParts → ℕ
keyed_cost files words a = opening_cost files.pkg + rebuilding_cost files.idx (store files.pkg)
    + blocks_cost (λ s. not (s.pages == 0)) files.pkg (store files.pkg) words a

-- ---- what is answered

-- a database that is opened, on a disk that tells its contents: what is done, what is read, and what is blamed on the
-- index
pub record OpenedAnswer {D : Type 0} (d : disk.Ghosts D) (request : Request) (tree : Tree) (db : Database)
    (words : List (List ℕ)) (a : AskParts) (given : Why)
    (before now : Outputs) (old new : D) : Type 0 where
  pub went : IsTrue d.tells → HasIndexRows d old db
      → RequestProgress request tree (d.files old).pkg (store_of db) words a (λ for. pkg_read d new ≤ pkg_read d old
      + reached_by (reaches_of request (is_indexed db) (packages_in d old db) words a) db for) given before now
  pub reads : always_keyed request ≡ false → IsTrue d.tells → HasIndexRows d old db → pkg_read d new ≤ pkg_read d old
      + reach_sum (reaches_of request (is_indexed db) (packages_in d old db) words a) db
  pub bad : IsTrue d.tells → CauseBy request a.chosen (map (word_at words) a.arguments) (d.files old).idx given
  pub looks : OnlyReadsIndexed d (always_keyed request || is_indexed db) old new

-- what a question by key prints, reports and reads, where so many bytes of Packages.db were read before and then: of any
-- database that can be read no damage is told, and a usable one is asked, unless an index that has to be made is too
-- large; up to a step it reads as above
abbrev pub KeyedAnswer : Tree → List (List ℕ) → AskParts → Files → Why → Outputs → Outputs → ℕ → ℕ → Type 0
KeyedAnswer tree words a files given old new before now =
    let r = reopened_files files in
    FilesAnswer (λ s. (is_refusal given ≡ false) × (IsUsable r.pkg r.idx → elim given [
      | why.IndexFull needed ↦ Through [] old new
      | others ↦ RequestProgress (request_of a.mode) tree r.pkg s words a (λ for. now ≤ before
          + (opening_cost r.pkg + rebuilding_cost r.idx (store r.pkg)
          + reached_by (asked_reaches (not (s.pages == 0)) r.pkg s words a) (without_index s) for)) others old new
    ])) files given old new
