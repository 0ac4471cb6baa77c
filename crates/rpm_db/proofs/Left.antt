-- What a changing call leaves of a value, told by the store and the index inside it.
use Rattle.std.proofs.Common.{◌≡◌, ℕ, ◌+◌, ◌≤◌, ◌^◌, ◌==◌, Bool, List, false, Some, Ok, Err, refl, sym, ap, ◌∙◌, subst, inl, inr, arith}
use Rattle.std.specs.Prelude.{IsTrue}
use Rattle.std.proofs.lemmas.Bool.Decides.{nat_tests}
use Rattle.rpm_outside.specs.declared.disk.Disk as disk
use Rattle.rpm_db.proofs.Vocabulary.{added_units, apply, AreLawful, BadCause, BlobMap, CanChange, Change, changed_number, ChangeFault, Database, database_of}
use Rattle.rpm_db.proofs.Vocabulary.{DiskFault, FullCause, HasRows, images, is_stopping, KeepsSums, IsChangedStill, IsConsistent, IsDone, IsLeft, IsRefusal, IsBothRefused, IsServing, CrashLeaves}
use Rattle.rpm_db.proofs.Vocabulary.{Makes, next_store, packages, packages_of, RoomCause, Row, rows, state, state_of, StaysBetween, Store, units_for, with_spare}
use Rattle.rpm_hindex.specs.State as hindex
use Rattle.rpm_db.specs.State.{State}
use Rattle.rpm_db.proofs.Applied.{held_by}
use Rattle.rpm_db.proofs.Unwritten.{crashes_told}
use Rattle.rpm_db.proofs.Refused.{is_refusal, stopping_is}
use Rattle.rpm_db.proofs.Served.{indexed_as, rows_of_disk, serving_same}
use Rattle.rpm_db.proofs.Sums.{verdicts_are}
use Rattle.rpm_db.proofs.Wholes.{whole_cause}

-- a store with pages isn't blank
pub not_blank_as : (value : Store) → 1 ≤ value.pages → (value.pages == 0) ≡ false
not_blank_as value some = grind (arith, nat_tests)

module _ {D : Type 0} (d : disk.Ghosts D) where
  -- what is inside a value that can be changed can be
  pub ready_inside : (at : D) (value : Store) (index : hindex.IndexState) (stopped : Bool) → IsConsistent value (Some index) stopped → stopped ≡ false
      → (IsTrue d.tells → IsServing (d.files at) (images d at) (database_of value (Some index) stopped)) → CanChange d at value index
  ready_inside at value index stopped own going s = record {
    going = own.going going;
    made = own.made refl;
    order = own.order going;
    keeps = λ told. (s told).keeps;
    units = λ told. (s told).index;
    quiet = λ told. (s told).quiet;
    durable = λ told. (s told).durable;
  }

  module _ (a b : D) (value after : Store) (index changed : hindex.IndexState) (stopped now : Bool) where
    abbrev before : Database
    before = database_of value (Some index) stopped

    -- a change was made
    pub left_done : {A : Type 0} (refused_as : Database) (to : BlobMap) (field least : ℕ) (done : A) → IsDone d a b value after changed to field least
        → IsLeft d a b before (database_of after (Some changed) stopped) refused_as (Ok done)
    left_done refused_as to field least done is = record {
      indexed = refl;
      not_blank = not_blank_as after is.ready.made;
      generation = is.generation_is;
      index = λ told was.
          indexed_as (d.files b).pkg (d.files b).idx after changed stopped (is.ready.units told) is.ready.order (is.rows_are told was.rows_are);
      whole = is.whole;
      serving = λ other runs told. record {
        keeps = is.ready.keeps told;
        index = is.ready.units told;
        quiet = is.ready.quiet told;
        durable = is.ready.durable told;
      };
      refused = tt;
      same = tt;
      moment = tt;
      stopped = (λ on. inl on, λ other. absurd cc);
    }

    -- it stopped at a fault
    pub left_fault : {A : Type 0} (drops : List Row) (kept : Store) (refused_as : Database) (fault : ChangeFault) → 1 ≤ after.pages → now ≡ is_stopping fault
        → (IsTrue d.tells → BadCause drops (d.files a).idx fault) → (stopped ≡ false → IsTrue d.tells → IsServing (d.files a) (images d a) before)
        → (IsRefusal fault → IsBothRefused d a b kept after index changed) → (after ≡ kept → after ≡ with_spare after.spare value)
        → (IsRefusal fault → database_of after (Some changed) now ≡ refused_as)
        → IsLeft d {A = A} a b before (database_of after (Some changed) now) refused_as (Err fault)
    left_fault drops kept refused_as fault own now_is bad s refusal roomed refused = record {
      indexed = refl;
      not_blank = not_blank_as after own;
      generation = tt;
      index = tt;
      whole = λ told whole. whole_cause drops (d.files a).idx fault whole (bad told);
      serving = λ other going told.
          (let r = refusal (is_refusal fault (λ at. other (ap Err at))) in
          serving_same d a b told r.runs value after index changed stopped now (roomed r.store_is) r.index_is (s going told));
      refused = refused;
      same = λ r. (refusal r).runs;
      moment = λ r. (refusal r).moment;
      stopped = (λ on. inr (ap Err (stopping_is fault (sym now_is ∙ on))), λ at. (let what : fault ≡ DiskFault = cc in now_is ∙ ap is_stopping what));
    }

  -- what a change makes
  module _ (a b : D) (value : Store) (index : hindex.IndexState) (stopped : Bool) (change : Change) (to : BlobMap) (field : ℕ)
      (own : IsConsistent value (Some index) stopped) (going : stopped ≡ false)
      (serving : IsTrue d.tells → IsServing (d.files a) (images d a) (database_of value (Some index) stopped))
      (goes : state_of to field ≡ apply change (state (d.files a).pkg value)) (here : IsTrue d.tells → images d a (d.files a))
      (crashes : IsTrue d.tells → AreLawful (images d a) → HasRows (packages (d.files a).pkg value) (d.files a).idx
      → CrashLeaves d a b (IsChangedStill (state (d.files a).pkg value) (state_of to field) (images d a))) where
    abbrev old : Database
    old = database_of value (Some index) stopped

    between : StaysBetween d a b change old
    between told lawful =
        let s = serving told in
        let rows_are = rows_of_disk (d.files a).pkg (d.files a).idx value index s.keeps (own.made refl) s.index (own.order going)
        (lawful (d.files a) (here told)) in
        crashes_told d a b (images d a) _ _ _ _ refl goes (crashes told lawful rows_are)

    pub makes_done : {A : Type 0} (after : Store) (changed : hindex.IndexState) (least : ℕ) (done : A)
        → next_store change value ≡ Some (with_spare value.spare after) → IsDone d a b value after changed to field least
        → least ≤ index.units + added_units (state (d.files a).pkg value) change
        → (IsTrue d.tells → HasRows (packages (d.files a).pkg value) (d.files a).idx → units_for (rows (packages_of to)) ≤ 2 ^ 28)
        → (number : ℕ) → changed_number change (state (d.files a).pkg value) ≡ number
        → (IsTrue d.tells → KeepsSums number (d.files a).pkg (d.files b).pkg value after)
        → Makes d a b change old (database_of after (Some changed) stopped) (Ok done)
    makes_done after changed least done room is_done few full number is sums = record {
      room = room;
      changed = record {
        state_is = λ told. is_done.state_is told ∙ goes;
        held = λ told image left. held_by (d.files b).pkg image.pkg after _ (is_done.state_is told ∙ goes) (is_done.stands told image left);
        verdicts = λ told.
            verdicts_are change (d.files a).pkg (d.files b).pkg value after (Some index) (Some changed) stopped stopped (is_done.state_is told ∙ goes) number is
            (sums told);
        reach = λ told was.
            omega (
              arith,
              is_done.reach told was.rows_are,
              few,
              (serving told).index.units,
              (is_done.ready.units told).units,
              ap (λ (t : State). units_for (rows t.packages)) goes,
            );
      };
      full = λ told runs was. subst (λ (s : State). units_for (rows s.packages) ≤ 2 ^ 28) goes (full told was.rows_are);
      crashes = between;
    }

    pub makes_fault : {A : Type 0} (after : Database) (fault : ChangeFault) → RoomCause (next_store change value) fault
        → (IsTrue d.tells → HasRows (packages (d.files a).pkg value) (d.files a).idx → FullCause (units_for (rows (packages_of to))) fault)
        → Makes d {A = A} a b change old after (Err fault)
    makes_fault after fault room full = record {
      room = room;
      changed = tt;
      full = λ told runs was. subst (λ (s : State). FullCause (units_for (rows s.packages)) fault) goes (full told was.rows_are);
      crashes = between;
    }
