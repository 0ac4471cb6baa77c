-- What adding one header of a list is.
use Rattle.std.proofs.Common.{◌≡◌, ℕ, Bool, true, List, Result, Ok, Err, refl, ap, min}
use Rattle.rpm_change.proofs.Vocabulary.{Add, add_fault, AddAnswer, at_index, Buffered, by_index, ChangeFault, Course, Database, EndedOnErr}
use Rattle.rpm_change.proofs.Vocabulary.{Files, FullCause, Halt, halt_of, Header, header, imported_header, left_after}
use Rattle.rpm_change.proofs.Vocabulary.{limits_counted, LimitsTurn, next, next_package_number, next_store, one_refused, other_stop, store_of, RoomCause}
use Rattle.rpm_change.proofs.Vocabulary.{State, state_in, stop_by, Store, Tally, ProgressInBoth}
use Rattle.rpm_outside.specs.declared.disk.Disk as disk
use Rattle.rpm_outside.specs.declared.sink.Sink as sink
use Rattle.rpm_db.specs.declared.change_fault.ChangeFault.TheVariants as fault
use Rattle.rpm_effects.specs.declared.tally.Halt.TheVariants as halt
use Rattle.rpm_db.specs.Reaches.{units_needed_after}

-- a header that is refused
module _ {old new : Files} (i : Bool) (db : Database) (s : State) (w : Store) (k : ℕ) (bytes : List ℕ) (law : next s ≡ next_package_number db) where
  read_limits : (f : ChangeFault) (h : Header) → header bytes ≡ Ok h → AddAnswer {A = ℕ} db bytes (Err f) → RoomCause (next_store (Add h.blob) (store_of db)) f
      → (i ≡ true → FullCause (units_needed_after s (Add h.blob)) f) → LimitsTurn i s (store_of db) w old new (imported_header k (header bytes)).changes
      (Err (halt_of f))
  read_limits f h read cause place full =
      rw read (one_refused i s (Add h.blob) (store_of db) w f (add_fault i ℕ db s bytes h.blob f law cause place full))

  pub add_limits : (f : ChangeFault) → AddAnswer {A = ℕ} db bytes (Err f)
      → ((h : Header) → header bytes ≡ Ok h → RoomCause (next_store (Add h.blob) (store_of db)) f)
      → (i ≡ true → (h : Header) → header bytes ≡ Ok h → FullCause (units_needed_after s (Add h.blob)) f)
      → LimitsTurn i s (store_of db) w old new (imported_header k (header bytes)).changes (Err (halt_of f))
  add_limits fault.NumbersSpent cause place full = read_limits fault.NumbersSpent cause.0.own cause.0.read cause tt (λ is. tt)
  add_limits (fault.BadHeader why) cause place full = other_stop i s (store_of db) w (imported_header k (header bytes)).changes halt.NoMemory refl
  add_limits fault.Stopped cause place full = other_stop i s (store_of db) w (imported_header k (header bytes)).changes halt.NoMemory refl
  add_limits others cause place full =
      read_limits others cause.1.own cause.1.read cause (place cause.1.own cause.1.read) (λ is. full is cause.1.own cause.1.read)

-- a course counts as one argument, which fails once
abbrev pub once : Course → Course
once c = record { steps = c.steps; failed = min 1 c.failed; changes = c.changes }

-- the command counts once: one argument failed, or none
abbrev pub counted_once : Result Tally Halt → Result Tally Halt
counted_once (Ok tally) = Ok (record { failed = min 1 tally.failed; changes = tally.changes })
counted_once (Err halt) = Err halt

module _ {D S T : Type 0} (d : disk.Ghosts D) (e : sink.Ghosts S) {old new : D} {before after : Database} (x y : Buffered S) (course : Course) where
  pub went_once : (r : Result Tally Halt) → ProgressInBoth d T old new before after r (EndedOnErr e x y) course
      → ProgressInBoth d T old new before after (counted_once r) (EndedOnErr e x y) (once course)
  went_once (Ok tally) w = record {
    ended = λ told ot o.
        (let done = w.ended told ot o in
        record { steps = done.steps; failed = ap (min 1) done.failed; changes = done.changes; state_is = done.state_is });
    limits =
        λ told. by_index (λ i rows. limits_counted i (state_in d old before) (store_of before) (store_of after) course.changes tally _
        (at_index (w.limits told) i rows));
    whole = w.whole;
    bad = w.bad;
    given = w.given;
    left = left_after d old new before after tally w.left (counted_once (Ok tally)) (λ is. absurd cc);
  }
  went_once (Err h) w = record {
    ended = λ told ot o.
        stop_by h course (once course) (state_in d old before) (state_in d new after) (state_in d old before) (state_in d new after) _ _ _ _
        (λ some. some) (λ at within. within) (w.ended told ot o);
    limits = w.limits;
    whole = w.whole;
    bad = w.bad;
    given = w.given;
    left = w.left;
  }
