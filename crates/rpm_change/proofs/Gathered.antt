-- One change of a batch that was made, or refused.
use Rattle.std.proofs.Common.{◌≡◌, ◌≢◌, ◌≤◌, ◌++◌, [], ◌∷◌, List, Bool, true, false, Ok, Err, refl, sym, ap, ◌∙◌}
use Rattle.std.proofs.lemmas.List.{append-nil}
use Rattle.rpm_db.specs.Gathering.{with_rows}
use Rattle.rpm_db.specs.Reaches.{added_rows, dropped_rows}
use Rattle.rpm_db.specs.State.{State}
use Rattle.rpm_change.specs.Progress.{OwesAdded}
use Rattle.std.specs.Prelude.{IsTrue}
use Rattle.rpm_outside.specs.declared.disk.Disk as disk
use Rattle.rpm_change.proofs.Vocabulary.{by_index, Change, ChangeFault, course_of_change, Database, fault_kind, fault_spent, SingleFaultIs, FullCause, GathersOne, Gathers}
use Rattle.rpm_change.proofs.Vocabulary.{generation_of, halt_of, halted_went, HasCauseAt, HasNumber, is_indexed, IsLeftSuspended, IsWholeIndex}
use Rattle.rpm_change.proofs.Vocabulary.{units_needed_after, next-state, next_package_number, one_made, one_refused, ReachesTo, refused_quietly, store_of, RowChange, Runs}
use Rattle.rpm_change.proofs.Vocabulary.{SameLog, state_in, Tally, through_none, WholeCause}
use Rattle.rpm_db.specs.declared.change_fault.ChangeFault.TheVariants as fault
use Rattle.rpm_hindex.specs.Rows.{Row}

-- a change whose rows are owed owes those that it adds
pub rows_owed : {owed more : RowChange} {change : Change} {s : State} → more ≡ with_rows owed (dropped_rows s change) (added_rows s change)
    → OwesAdded owed more (change ∷ []) s
rows_owed {owed = owed} {change = change} {s = s} is = record {
  adds = ap (λ (o : RowChange). o.adds) is ∙ ap (λ (rows : List Row). owed.adds ++ rows) (sym (append-nil (added_rows s change)));
}

abbrev changed : Tally
changed = record { failed = 0; changes = 1 }

module _ {D : Type 0} (d : disk.Ghosts D) {A : Type 0} (change : Change) {old new : D} {before after : Database} {owed more : RowChange}
    (runs : Runs d SameLog old new) where
  pub gathered_one : (a : A) → Gathers d old new change before after owed more (Ok a) → is_indexed after ≡ true
      → HasNumber (state_in d old before) change → generation_of before ≢ 4294967295
      → (IsTrue d.tells → ReachesTo (store_of after) (d.files old).pkg (d.files new).pkg) → (IsTrue d.tells → (d.files new).idx ≡ (d.files old).idx)
      → d.faults old ≤ d.faults new → GathersOne d change old new before after owed more (Ok changed)
  gathered_one a gathers indexed number unspent end index later =
      let made = gathers.gathered in
      record {
        went = record {
          ended = λ told ot et o e.
              record { steps = through_none {ot = ot} {et = et} o e; failed = refl; changes = refl; state_is = made.state_is told };
          limits = λ told. by_index (λ i rows.
              one_made i (state_in d old before) change (store_of before) (store_of after) changed number unspent gathers.room made.generation
              (λ is. gathers.full told (rows is)) (end told) (λ is. made.reach told (rows is)));
          whole = λ told whole. rw (index told) whole;
          bad = λ told. tt;
          given = λ told. rows_owed (made.rows told);
          left = record {
            carried = record { gathering = made.gathering; stays = index; owes = λ told has. made.owes told has };
            indexed = indexed;
            runs = runs;
            disk = record { later = later; rose = λ is. absurd cc };
          };
        };
        one = refl;
        kinds = tt;
        spent = tt;
      }

  pub ungathered_one : {X : Type 0} {kept : Database} {drops : List Row} (f : ChangeFault) → Gathers d {A = A} old new change before after owed more (Err f)
      → IsLeftSuspended d {A = A} old new after kept drops (Err f)
      → ((i : Bool) → (i ≡ true → FullCause (units_needed_after (state_in d old before) change) f)
      → SingleFaultIs i (state_in d old before) change (store_of before) f)
      → next_package_number kept ≡ next_package_number before → generation_of kept ≡ generation_of before
      → (IsTrue d.tells → IsWholeIndex (d.files old).idx → WholeCause f)
      → HasCauseAt X (d.faults old) (d.faults new) → (f ≡ fault.DiskFault → X) → GathersOne d change old new before after owed more (Err (halt_of f))
  ungathered_one {kept = kept} {drops = drops} f gathers left refuses number generation whole cause failed =
      let s = state_in d old before in
      let law = next-state (d.files old).pkg (store_of before) in
      let here = refuses false (λ is. absurd cc) in
      record {
        went = halted_went d (course_of_change change) f (halt_of f) refl (refused_quietly (course_of_change change) f)
            (λ told i rows. one_refused i s change (store_of before) (store_of after) f (refuses i (λ is. gathers.full told (rows is))))
            whole drops left.bad left.indexed runs cause failed;
        one = tt;
        kinds = fault_kind false s change (store_of before) f here;
        spent = fault_spent false s change before after kept f law number generation left.refused here;
      }
