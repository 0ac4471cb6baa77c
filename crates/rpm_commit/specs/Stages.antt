-- A command that changes packages, as each function on the way to it says it: what becomes `changes` of the page
-- (`rpm_tool`, Theorem.antt) in `run`.
use Rattle.std.specs.Prelude.{◌≡◌, ◌⊎◌, Bool, true, false, [], IsTrue, Result, Ok, Err, IfErr}
use Rattle.rpm_db.specs.Database.{store_of}
use Rattle.rpm_outside.specs.declared.disk.Disk as disk
use Rattle.rpm_outside.specs.declared.shelf.Shelf as shelf
use Rattle.rpm_outside.specs.declared.sink.Sink as sink
use Rattle.rpm_outside.specs.declared.buffered.Buffered.{Buffered}
use Rattle.rpm_hindex.specs.Sizes.{units_for}
use Rattle.rpm_pkgdb.specs.Reaches.{ReachesTo}
use Rattle.rpm_outside.specs.Files.{Files}
use Rattle.rpm_pkgdb.specs.Store.{Store, store}
use Rattle.rpm_db.specs.Changed.{IsReady}
use Rattle.rpm_db.specs.Database.{Database, is_blank_database}
use Rattle.rpm_db.specs.Lawful.{IsLawful, IsWholeIndex}
use Rattle.rpm_db.specs.Reaches.{ReachesMade}
use Rattle.rpm_db.specs.State.{State}
use Rattle.rpm_db.specs.Runs.{SameLog}
use Rattle.rpm_effects.specs.declared.tally.Tally.{Tally}
use Rattle.rpm_effects.specs.Progress.{Outputs}
use Rattle.rpm_effects.specs.Steps.{Course}
use Rattle.rpm_effects.specs.declared.answer.Why.{Why}
use Rattle.rpm_effects.specs.declared.answer.Why.TheVariants as why
use Rattle.rpm_commit.specs.declared.changing.CommandEnding.{CommandEnding}
use Rattle.rpm_commit.specs.Changing.{EmptyBy, HasBrokenIndex}
use Rattle.rpm_effects.specs.Classes.{is_done, is_halt, is_of_words}
use Rattle.rpm_outside.specs.Frame.{DiskFault}
use Rattle.rpm_db.specs.Frame.{IsIndexed, Runs, state_in}
use Rattle.rpm_effects.specs.Hands.{ShelfFault, Hands}
use Rattle.rpm_commit.specs.Limits.{LimitsBy}
use Rattle.rpm_commit.specs.Reaches.{begun_store}
use Rattle.rpm_commit.specs.Working.{OpensWithin, Work, why_of}

-- the store that a database is opened with: begun, where it is blank; and no file is longer than opening makes it
pub record FoundStore (old new : Files) (db : Database) : Type 0 where
  pub value : Store
  pub undamaged : store old.pkg ≡ Ok value
  pub store_is : (store_of db) ≡ begun_store value
  pub reach : OpensWithin old value db new

module _ {D : Type 0} (d : disk.Ghosts D) where
  -- a database is begun where there is none, and any other stays as it is
  pub record BeginsOn (old new : D) (before after : Database) : Type 0 where
    pub ready : IsReady d new after
    pub not_blank : is_blank_database after ≡ false
    pub state_is : IsTrue d.tells → state_in d new after ≡ state_in d old before
    pub store_is : (store_of after) ≡ begun_store (store_of before)
    pub rows : IsTrue d.tells → (is_blank_database before ≡ false → IsIndexed d old before) → IsIndexed d new after
    pub whole : IsTrue d.tells → (is_blank_database before ≡ false → IsWholeIndex (d.files old).idx)
        → IsWholeIndex (d.files new).idx
    pub finds : IsTrue d.tells → IsIndexed d new after ⊎ ((d.files new).idx ≡ (d.files old).idx)
    pub reach : IsTrue d.tells → ReachesMade (units_for []) (d.files old).idx (d.files new).idx
    pub end : IsTrue d.tells → ReachesTo (store_of after) (d.files old).pkg (d.files new).pkg

  -- a database was opened to be changed: its index holds the rows where the database is lawful, or where it isn't the
  -- one that was found
  pub record OpensOn (old new : D) (db : Database) : Type 0 where
    pub ready : IsReady d new db
    pub not_blank : is_blank_database db ≡ false
    pub rows : IsTrue d.tells → IsLawful (d.files old).pkg (d.files old).idx → IsIndexed d new db
    pub broken : IsTrue d.tells → ¬ IsWholeIndex (d.files new).idx → HasBrokenIndex (d.files old).pkg (d.files old).idx
    pub finds : IsTrue d.tells → IsIndexed d new db ⊎ ((d.files new).idx ≡ (d.files old).idx)
    pub found : IsTrue d.tells → FoundStore (d.files old) (d.files new) db

  -- a course was gone through on the disk over which its changes are held: how far, which limit stopped it, and whether
  -- it found packages where it asks for none, once the contents are told; and what it leaves
  pub record WorksOn (anew changing none : Bool) (course : State → Course) (Told : Type 0) (before behind : Outputs)
      (old new : D)
      (ended : Result Tally Why) : Type 0 where
    pub worked : Told → Work anew changing course (d.files old) (d.files new) ended before behind
    pub limits : Told → LimitsBy anew (IsLawful (d.files old).pkg (d.files old).idx) course (d.files old) (why_of ended)
    pub empty : IsTrue d.tells → EmptyBy none (d.files old) (why_of ended)
    pub halted : IfErr ended (λ given. is_halt given ≡ true)
    pub runs : Runs d SameLog old new
    pub disk : DiskFault d (ended ≡ Err why.DiskFault) old new

  -- what holds of a command on any disk: its changes count where it was done, and it isn't one of words
  pub record KeepsAlways (ended : CommandEnding) (old new : D) : Type 0 where
    pub counted : is_done ended.why ≡ false → ended.changes ≡ 0
    pub of_words : is_of_words ended.why ≡ false
    pub goes_on : d.follows old new
    pub disk : DiskFault d (ended.why ≡ why.DiskFault) old new

-- what it keeps of a shelf, which it may read or doesn't, and of both sinks
pub record Streams {S O E : Type 0} (s : shelf.Ghosts S) (o : sink.Ghosts O) (e : sink.Ghosts E) (reads : Bool)
    (Given : Why → Type 0)
    (old new : S × Buffered O × Buffered E) : Type 0 where
  pub unread : reads ≡ false → new.0 ≡ old.0
  pub paths : IsTrue s.tells → s.paths new.0 ≡ s.paths old.0
  pub shelf : ShelfFault s (Given why.ShelfFault) old.0 new.0
  pub hands : Hands o e (Given why.OutFault) (Given why.ErrFault) old.1 old.2 new.1 new.2
