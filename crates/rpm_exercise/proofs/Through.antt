-- Changes of the exercise on a disk and a database, while a batch goes on.
use Rattle.std.proofs.Common.{true, List, [], ◌∷◌, ◌++◌, Result, Ok, Err, refl, sym, ap, ◌+◌, ℕ}
use Rattle.std.specs.Prelude.{IsTrue, IfErr}
use Rattle.rpm_outside.specs.declared.disk.Disk as disk
use Rattle.rpm_exercise.proofs.Vocabulary.{Change, ChangeFault, counted_went, Database, EndedQuietly, Files, GathersOne, GathersThrough, Halt}
use Rattle.rpm_exercise.proofs.Vocabulary.{halt_of, IsGathering, IsOfChange, IsOfChanges, IsOfIndex, IsSpent, course_of_changes, none_by, none_gone}
use Rattle.rpm_exercise.proofs.Vocabulary.{none_went, owing_none, owing_then, plus, quiet_joins, quiet_none, RowChange, state_in}
use Rattle.rpm_exercise.proofs.Vocabulary.{State, stopped_went, Tally, through_none, ProgressBy, went_ahead, ProgressOwing, went_then}
use Rattle.rpm_db.specs.declared.change_fault.ChangeFault.TheVariants as fault
use Rattle.rpm_effects.specs.declared.tally.Halt.TheVariants as halt

one_kinds : (change : Change) (r : Result Tally Halt) → IfErr r (IsOfChange change) → IfErr r IsOfChanges
one_kinds change (Ok tally) kinds = tt
one_kinds change (Err h) kinds = (kinds.0, kinds.1, kinds.2)

-- a fault of the index is of a change, and nothing is spent
pub index_changes : (db : Database) (f : ChangeFault) → IsOfIndex f → IsSpent db (halt_of f) × IsOfChanges (halt_of f)
index_changes db (fault.IndexFull needed) kind = (tt, (λ is. cc, λ is. cc, λ is. cc))
index_changes db (fault.BadIndex unit) kind = (tt, (λ is. cc, λ is. cc, λ is. cc))
index_changes db fault.DiskFault kind = (tt, (λ is. cc, λ is. cc, λ is. cc))
index_changes db fault.NoMemory kind = (tt, (λ is. cc, λ is. cc, λ is. cc))
index_changes db others kind = absurd kind

-- what some changes and then others came to: nothing fails
abbrev pub and_then : Tally → Result Tally Halt → Result Tally Halt
and_then a (Ok b) = Ok (record { failed = 0; changes = a.changes + b.changes })
and_then a (Err h) = Err h

module _ {D : Type 0} (d : disk.Ghosts D) where
  -- one change
  pub one_through : {change : Change} {old new : D} {before after : Database} {owed more : RowChange} {r : Result Tally Halt}
      → GathersOne d change old new before after owed more r → GathersThrough d (change ∷ []) old new before after owed more r
  one_through {change = change} {r = r} made = record { course = made.went; spent = made.spent; kinds = one_kinds change r made.kinds }

  module _ (stays : (x : D) → d.follows x x) (at : D) (db : Database) {owed : RowChange} (gathering : IsGathering d at db owed) where
    -- there was no memory
    pub memory_through : (changes : List Change) → GathersThrough d changes at at db db owed owed (Err halt.NoMemory)
    memory_through changes = record {
      course = stopped_went d (course_of_changes changes) halt.NoMemory
          (λ s t ot et o e. none_gone (course_of_changes changes) _ _ (through_none {ot = ot} {et = et} o e)) (λ i. refl) tt
          (none_by d stays _ (owing_none d gathering) at db gathering.indexed (Err halt.NoMemory) (λ is. absurd cc));
      spent = tt;
      kinds = (λ is. cc, λ is. cc, λ is. cc);
    }

    -- nothing was done
    pub none_through : GathersThrough d [] at at db db owed owed (Ok (record { failed = 0; changes = 0 }))
    none_through = record {
      course = none_went d stays (owing_none d gathering) at db gathering.indexed (quiet_none (state_in d at db));
      spent = tt;
      kinds = tt;
    }

  -- nothing fails
  pub none_failed : {C A : Type 0} {G : List Change → State → Type 0} {from to : Files} {old new : D} {before after : Database}
      (changes : List Change) (tally : Tally)
      → ProgressBy d C A (IsTrue d.tells) G from to old new before after (Ok tally) EndedQuietly (course_of_changes changes)
      → ProgressBy d C A (IsTrue d.tells) G from to old new before after (Ok (record { failed = 0; changes = tally.changes })) EndedQuietly
      (course_of_changes changes)
  none_failed changes tally w =
      counted_went d (course_of_changes changes) tally (record { failed = 0; changes = tally.changes })
      (λ told. ap (λ (n : ℕ). record { failed = n; changes = tally.changes }) (sym (w.ended told true true [] []).failed)) w

  module _ (joins : (x y z : D) → d.follows x y → d.follows y z → d.follows x z) {old at new : D} {before db after : Database}
      {owed mid more : RowChange} {xs ys : List Change} {a : Tally} where
    both_through : (r : Result Tally Halt) → GathersThrough d xs old at before db owed mid (Ok a) → GathersThrough d ys at new db after mid more r
        → ProgressOwing d (IsTrue d.tells) old new before after owed more (plus a r) EndedQuietly (course_of_changes (xs ++ ys))
    both_through r first second =
        went_then d joins quiet_joins (owing_then d) (λ owing told rows. owing.owes told rows) (λ owing. owing.stays) (course_of_changes xs) first.course
        (course_of_changes ys) r
        second.course

    -- some changes and then others
    pub through_then : (r : Result Tally Halt) → GathersThrough d xs old at before db owed mid (Ok a) → GathersThrough d ys at new db after mid more r
        → GathersThrough d (xs ++ ys) old new before after owed more (and_then a r)
    through_then (Ok b) first second =
        record { course = none_failed (xs ++ ys) _ (both_through (Ok b) first second); spent = tt; kinds = tt }
    through_then (Err h) first second = record { course = both_through (Err h) first second; spent = second.spent; kinds = second.kinds }

  -- stopped before these
  pub through_ahead : {old new : D} {before after : Database} {owed more : RowChange} {xs : List Change} (ys : List Change) {h : Halt}
      → GathersThrough d xs old new before after owed more (Err h) → GathersThrough d (xs ++ ys) old new before after owed more (Err h)
  through_ahead {xs = xs} ys went =
      record { course = went_ahead d quiet_joins.ahead (course_of_changes xs) (course_of_changes ys) went.course; spent = went.spent; kinds = went.kinds }
