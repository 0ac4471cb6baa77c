-- Questions, and calls that only read.
use Rattle.std.proofs.Common.{◌≡◌, Option, Some, None, Result, Ok, Err, false, refl, arith}
use Rattle.std.specs.Prelude.{IsTrue, IfSome}
use Rattle.rpm_outside.specs.declared.disk.Disk as disk
use Rattle.rpm_exercise.proofs.Vocabulary.{ExerciseQuestion, cause_then, Database, DiskFault, Halt, HasKeptRows, Idx, is_broken, IsAskable, IsOfAsking, IsOfQuestion}
use Rattle.rpm_exercise.proofs.Vocabulary.{OnlyReadsFile, PickFault, reads_on, Runs, runs_looks, runs_none, SameFiles, stop_of}
use Rattle.rpm_select.specs.declared.picked.PickFault.TheVariants as pick
use Rattle.rpm_effects.specs.declared.tally.Halt.TheVariants as halt

at_disk : {X : Type 0} (r : Result X PickFault) → stop_of r ≡ Some halt.DiskFault → r ≡ Err pick.DiskFault
at_disk (Ok x) is = absurd cc
at_disk (Err pick.DiskFault) is = refl
at_disk (Err others) is = absurd cc

of_reading : {X : Type 0} (r : Result X PickFault) → is_broken r ≡ false → IfSome (stop_of r) IsOfQuestion
of_reading (Ok x) sound = tt
of_reading (Err (pick.BadIndex unit)) sound = absurd cc
of_reading (Err pick.DiskFault) sound = tt
of_reading (Err pick.NoMemory) sound = tt

of_asking : {X : Type 0} (r : Result X PickFault) → IfSome (stop_of r) IsOfAsking
of_asking (Ok x) = tt
of_asking (Err pick.DiskFault) = tt
of_asking (Err others) = tt

module _ {D : Type 0} (d : disk.Ghosts D) where
  -- a call of a picker
  pub asks_call : {X : Type 0} (r : Result X PickFault) {a b : D} {db : Database} → (IsTrue d.tells → HasKeptRows d a db → is_broken r ≡ false)
      → Runs d SameFiles a b → DiskFault d (r ≡ Err pick.DiskFault) a b → ExerciseQuestion d a b db (stop_of r)
  asks_call r sound runs cause = record {
    lawful = λ told rows. of_reading r (sound told rows);
    kinds = of_asking r;
    runs = runs;
    disk = record { later = cause.later; rose = λ is. cause.rose (at_disk r is) };
  }

  pub looks_index : {a b : D} → OnlyReadsFile d Idx a b → Runs d SameFiles a b
  looks_index {a = a} {b = b} = runs_looks d SameFiles (λ f. refl) Idx _ a b refl

  -- nothing was asked
  pub asks_none : ((x : D) → d.follows x x) → (at : D) (db : Database) → ExerciseQuestion d at at db None
  asks_none stays at db = record {
    lawful = λ told rows. tt;
    kinds = tt;
    runs = runs_none d stays SameFiles (λ f. refl) at;
    disk = record { later = omega arith; rose = λ is. absurd cc };
  }

  module _ {a b : D} {db : Database} (first : ExerciseQuestion d a b db None) where
    -- a question after others
    pub asks_then : ((x y z : D) → d.follows x y → d.follows y z → d.follows x z) → {c : D} {stop : Option Halt} → ExerciseQuestion d b c db stop
        → ExerciseQuestion d a c db stop
    asks_then trans {c = c} next = record {
      lawful = λ told rows. next.lawful told (rw (first.runs.reads_as told) rows);
      kinds = next.kinds;
      runs = reads_on d trans a b c first.runs next.runs;
      disk = cause_then first.disk.later next.disk;
    }

    -- and then there was no memory
    pub asks_full : ExerciseQuestion d a b db (Some halt.NoMemory)
    asks_full = record { lawful = λ told rows. tt; kinds = tt; runs = first.runs; disk = record { later = first.disk.later; rose = λ is. absurd cc } }

    -- it can be asked further
    pub askable_on : IsAskable d a db → IsAskable d b db
    askable_on asked = record {
      keeps = λ told. rw (first.runs.reads_as told) (asked.keeps told);
      keeps_index = λ told. rw (first.runs.reads_as told) (asked.keeps_index told);
      going = asked.going;
    }
