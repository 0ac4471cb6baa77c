-- What the exercise leaves where packages are read once its changes are made.
use Rattle.std.proofs.Common.{Some, None, Ok, Err, true}
use Rattle.std.specs.Prelude.{IsTrue}
use Rattle.rpm_outside.specs.declared.disk.Disk as disk
use Rattle.rpm_outside.specs.declared.sink.Sink as sink
use Rattle.rpm_exercise.proofs.Vocabulary.{at_index, by_index, ExerciseQuestion, Buffered, Course, Database, EndedOnOut, EndedQuietly, Halt, HasKeptRows, left_read, other_stop, out_gone, state_in}
use Rattle.rpm_exercise.proofs.Vocabulary.{stopped_by, Tally, ProgressInBoth, whole_bad}
use Rattle.rpm_exercise.proofs.Halts.{asking_is, reading_is}

module _ {D : Type 0} (d : disk.Ghosts D) (joins : (x y z : D) → d.follows x y → d.follows y z → d.follows x z) {old at new : D} {before db : Database}
    {tally : Tally} {course : Course} (went : ProgressInBoth d (IsTrue d.tells) old at before db (Ok tally) EndedQuietly course) where
  pub read_done : ExerciseQuestion d at new db None → ProgressInBoth d (IsTrue d.tells) old new before db (Ok tally) EndedQuietly course
  read_done said = record {
    ended = λ told. rw (said.runs.reads_as told) (went.ended told);
    limits = λ told. by_index (λ i rows. rw (said.runs.reads_as told) (at_index (went.limits told) i rows));
    whole = λ told was. rw (said.runs.reads_as told) (went.whole told was);
    bad = λ told. tt;
    given = λ told. rw (said.runs.reads_as told) (went.given told);
    left = left_read d joins went.left said.runs (Ok tally) (record { later = said.disk.later; rose = λ is. absurd cc });
  }

  -- or reading stopped it, and nothing was told
  pub read_stopped : {S : Type 0} (of : sink.Ghosts S) (x : Buffered S) (all : Course) {h : Halt} → (IsTrue d.tells → HasKeptRows d at db)
      → ExerciseQuestion d at new db (Some h) → ProgressInBoth d (IsTrue d.tells) old new before db (Err h) (EndedOnOut of x x) all
  read_stopped of x all {h = h} rows said = record {
    ended = λ told et e.
        let kind = asking_is db h said.kinds in
        stopped_by all (state_in d old before) (state_in d new db) h _ _ kind.0 kind.1 (out_gone of x all et e);
    limits = λ told. by_index (λ i asked. other_stop i _ _ _ all.changes h (reading_is i (d.files new).idx h (said.lawful told (rows told))).0);
    whole = λ told was. (reading_is true (d.files new).idx h (said.lawful told (rows told))).1;
    bad = λ told. whole_bad (d.files new).idx (d.files old).idx h (reading_is true (d.files new).idx h (said.lawful told (rows told))).1;
    given = λ told. tt;
    left = left_read d joins went.left said.runs (Err h) (record { later = said.disk.later; rose = λ is. said.disk.rose (cc) });
  }
