-- What stops the exercise, by cases.
use Rattle.std.proofs.Common.{◌≡◌, ◌≢◌, Bool, true, false, Err, refl}
use Rattle.rpm_exercise.proofs.Vocabulary.{Database, Halt, is_indexed, is_limit, IsOfAsking, IsOfChanges, IsOfExercise, IsOfQuestion, IsSpent, IsStop, Units}
use Rattle.rpm_exercise.proofs.Vocabulary.{WholeTurn}
use Rattle.rpm_effects.specs.declared.tally.Halt.TheVariants as halt

-- what stops reading is no limit and no broken index
pub reading_is : (i : Bool) (idx : Units) (h : Halt) → IsOfQuestion h → (is_limit i h ≡ false) × WholeTurn idx (Err h) × IsOfAsking h
reading_is i idx halt.DiskFault kind = (refl, tt, tt)
reading_is i idx halt.NoMemory kind = (refl, tt, tt)
reading_is i idx others kind = absurd kind

-- and what stops asking is of no sink
pub asking_is : (db : Database) (h : Halt) → IsOfAsking h → (h ≢ halt.OutFault) × (h ≢ halt.ErrFault) × IsOfExercise h × IsSpent db h
asking_is db (halt.BadIndex unit) kind = (λ is. cc, λ is. cc, tt, tt)
asking_is db halt.DiskFault kind = (λ is. cc, λ is. cc, tt, tt)
asking_is db halt.NoMemory kind = (λ is. cc, λ is. cc, tt, tt)
asking_is db others kind = absurd kind

pub asking_stop : (db : Database) (h : Halt) → is_indexed db ≡ true → IsOfAsking h → IsStop db h
asking_stop db h indexed kind = record { kind = (asking_is db h kind).2; spent = (asking_is db h kind).3; indexed = indexed }

pub changes_kind : (h : Halt) → IsOfChanges h → IsOfExercise h
changes_kind halt.ShelfFault kind = kind.0 refl
changes_kind halt.ErrFault kind = kind.2 refl
changes_kind others kind = tt
