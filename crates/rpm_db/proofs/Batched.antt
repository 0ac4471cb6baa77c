-- A change of a batch: the store was changed alone, and its rows were gathered.
use Rattle.std.proofs.Common.{◌≡◌, ◌≤◌, ◌^◌, ◌==◌, ℕ, Bool, true, List, [], Option, Some, None, is_some, Result, Ok, Err, refl, sym, ap, ◌∙◌, subst, inl, inr, arith}
use Rattle.std.specs.Prelude.{IfSome, IsTrue, OnOk}
use Rattle.std.proofs.lemmas.Bool.{cases_Bool}
use Rattle.std.proofs.lemmas.Bool.Decides.{nat_tests}
use Rattle.std.specs.FinMap as finite
use Rattle.rpm_outside.specs.declared.disk.Disk as disk
use Rattle.rpm_db.proofs.Vocabulary.{AreLawful, BadIndexIs, blobs, blobs_asked, change_asked, ChangeFault, field_for, FitsAsked, FullIndexIs, Gathers, IsForeseen}
use Rattle.rpm_db.proofs.Vocabulary.{IsChangedStill, CrashLeavesOnly, IndexIs, IsOwnHeader, IsIndexPlanned, IsWholeIndex, LeadsTo, next_store, number_asked, number_for, old_rows, PackageChange}
use Rattle.rpm_db.proofs.Vocabulary.{rows_asked, rows_at, TakesRows, times_none, Work, WritesRows, WritesWhole}
use Rattle.rpm_hindex.specs.declared.plan.IndexPlan.{IndexPlan}
use Rattle.rpm_db.specs.declared.planning.PackageChange.TheVariants as request
use Rattle.rpm_db.proofs.Vocabulary.{added_rows, dropped_rows}
use Rattle.rpm_db.proofs.Vocabulary.{added_units, apply, Balances, BlobMap, Change, changed_number, database_of, Files, GatheredChange, HasChanged, HasRows}
use Rattle.rpm_db.proofs.Vocabulary.{IsGathering, IsPutAside, KeepsSums, KeepsUnits, live_of, nat_cmp, no_row_changes, Owes, OwesOn, Package, packages, packages-blobs}
use Rattle.rpm_db.proofs.Vocabulary.{packages_of, Row, RowChange, rows, sealed_in, state, state_of, Store, times, Units, units_for, with_rows}
use Rattle.rpm_db.specs.Gathering.{IsOrdered}
use Rattle.rpm_db.specs.Room.{RoomIs}
use Rattle.rpm_db.specs.State.{State}
use Rattle.rpm_hindex.specs.State as hindex
use Rattle.rpm_db.proofs.Edited.{rows_erased}
use Rattle.rpm_db.proofs.Halves.{state_written}
use Rattle.rpm_db.proofs.OwedRows.{balance_more, due_more, rows_clear}
use Rattle.rpm_db.proofs.PackageChanges.{added_asked, dropped_asked, number_changed, rows_changed, state_asked, units_asked}
use Rattle.rpm_db.proofs.Results.{four_ok}
use Rattle.rpm_db.proofs.Shared.{rows_held}
use Rattle.rpm_db.proofs.Sums.{verdicts_are}
use Rattle.rpm_db.proofs.Units.{units_ordered}
use Rattle.rpm_hindex.proofs.Fewer.{units_less}

-- the packages of now have room, where the index is owed their rows
owed_fits : (pkg idx : Units) (value : Store) (index : Option hindex.IndexState) (stopped : Bool) (owed : RowChange) → is_some index ≡ true → IsOrdered index
    → KeepsUnits idx index → (sealed_in index ≡ value.generation → owed ≡ no_row_changes) → Owes pkg idx (database_of value index stopped) owed
    → units_for (rows (packages pkg value)) ≤ 2 ^ 28
owed_fits pkg idx value None stopped owed some order keeps clear o = absurd cc
owed_fits pkg idx value (Some index) stopped owed some order keeps clear o = elim (cases_Bool (sealed_in (Some index) == value.generation)) [
  | inl same ↦
      let at : sealed_in (Some index) ≡ value.generation = grind (arith, nat_tests, same) in
      let has = rows_clear o.from (packages pkg value) idx owed (clear at) o.has o.balances in
      units_ordered idx index (packages pkg value) order keeps has
  | inr other ↦ o.fits (λ at. grind (arith, nat_tests, other, at))
]

-- what the index takes, said of the files from before a read
pub takes_at : {D A : Type 0} (d : disk.Ghosts D) (a b : D) (owed all : RowChange) (MayBe : ℕ → Type 0) (result : Result A ChangeFault) → IsTrue d.tells
    → d.files b ≡ d.files a → owed ≡ all → TakesRows d b owed MayBe result → TakesRows d a all MayBe result
takes_at d a b owed all MayBe result told same is takes =
    let here = subst (λ (o : RowChange). TakesRows d b o MayBe result) is takes in
    record {
      full = λ told' before after has balances. here.full told' before after (subst (λ (f : Files). HasRows before f.idx) (sym same) has) balances;
      bad = λ told'. subst (λ (f : Files). BadIndexIs all.drops f.idx result) same (here.bad told');
    }

map_some : {A : Type 0} {P Q : A → Type 0} (o : Option A) → ((x : A) → P x → Q x) → IfSome o P → IfSome o Q
map_some None f p = tt
map_some (Some x) f p = f x p

-- and what it is planned to become
pub foreseen_at : {D : Type 0} (d : disk.Ghosts D) (a b : D) (index : hindex.IndexState) (owed all : RowChange) (ahead : Bool) (plan : Option IndexPlan)
    → (IsTrue d.tells → d.files b ≡ d.files a) → (IsTrue d.tells → owed ≡ all) → IsForeseen d b index owed ahead plan → IsForeseen d a index all ahead plan
foreseen_at d a b index owed all ahead plan same is f = record {
  known = f.known;
  is = map_some plan (λ p (q : IsIndexPlanned d b index owed p.work). record {
    can = q.can;
    leads = λ before after balances. record {
      makes = λ told has.
          (let here = q.leads before after (subst (λ (o : RowChange). Balances o (rows before) (rows after)) (sym (is told)) balances) in
          subst (λ (f : Files). WritesRows (rows after) p.work f.idx) (same told)
          (here.makes told (subst (λ (f : Files). HasRows before f.idx) (sym (same told)) has)));
      reach = λ told has.
          (let here = q.leads before after (subst (λ (o : RowChange). Balances o (rows before) (rows after)) (sym (is told)) balances) in
          omega (
            arith,
            here.reach told (subst (λ (f : Files). HasRows before f.idx) (sym (same told)) has),
            ap (λ (o : RowChange). live_of o.adds) (is told),
          ));
    };
    whole = λ told whole.
        subst (λ (f : Files). WritesWhole p.work f.idx) (same told) (q.whole told (subst (λ (f : Files). IsWholeIndex f.idx) (sym (same told)) whole));
  }) f.is;
}

-- the rows that are left need no more units
pub units_erased : (file : Units) (st : Store) (n : ℕ)
    → units_for (rows (packages_of (finite.remove (blobs file st) n))) ≤ units_for (rows (packages file st))
units_erased file st n =
    let left = rows (packages_of (finite.remove (blobs file st) n)) in
    let lost : HasChanged (rows_at n (finite.get (packages file st) n)) [] (rows (packages file st)) left = rows_erased file st n [] refl in
    units_less left (rows (packages file st)) (λ row. omega (arith, lost row, times_none row))

-- a change that was made had room
fits_ok : {A P : Type 0} {Q : P → Type 0} (needed : ℕ) (result : Result A ChangeFault) → ((p : P) → Q p → FullIndexIs needed result)
    → OnOk result ((p : P) → Q p → needed ≤ 2 ^ 28)
fits_ok needed (Ok done) full = full
fits_ok needed (Err fault) full = tt

module _ {D : Type 0} (d : disk.Ghosts D) (a : D) (st : Store) (index : Option hindex.IndexState) (stopped : Bool) (owed : RowChange) (drops adds : List Row)
    (to : BlobMap) (changed : HasChanged drops adds (rows (packages (d.files a).pkg st)) (rows (packages_of to)))
    (there : (row : Row) → times row drops ≤ times row (rows (packages (d.files a).pkg st))) where
  -- what balanced before balances with its rows
  balanced_on : (o : OwesOn d a (database_of st index stopped) owed) → Balances (with_rows owed drops adds) (rows o.from) (rows (packages_of to))
  balanced_on o =
      balance_more owed drops adds (rows o.from) (rows (packages (d.files a).pkg st)) (rows (packages_of to)) o.balances changed there

  -- it was made
  gathered : (b : D) (after : Store) (change : Change) (more : RowChange) (field : ℕ) → IsGathering d a (database_of st index stopped) owed
      → IsPutAside d b st after to field → (IsTrue d.tells → (d.files b).idx ≡ (d.files a).idx)
      → state_of to field ≡ apply change (state (d.files a).pkg st) → (IsTrue d.tells → more ≡ with_rows owed drops adds)
      → added_units (state (d.files a).pkg st) change ≡ live_of adds
      → drops ≡ dropped_rows (state (d.files a).pkg st) change → adds ≡ added_rows (state (d.files a).pkg st) change
      → (IsTrue d.tells → OwesOn d a (database_of st index stopped) owed → units_for (rows (packages_of to)) ≤ 2 ^ 28)
      → (number : ℕ) → changed_number change (state (d.files a).pkg st) ≡ number
      → (IsTrue d.tells → KeepsSums number (d.files a).pkg (d.files b).pkg st after)
      → GatheredChange d a b change (database_of st index stopped) (database_of after index stopped) owed more
  gathered b after change more field was done idx goes is few drops_are adds_are fits number at_number sums =
      let state_is : IsTrue d.tells → state (d.files b).pkg after ≡ apply change (state (d.files a).pkg st) =
      λ told. state_written (d.files b).pkg after to field (done.stored.blobs_are told) done.field_is ∙ goes in
      let packages_are : IsTrue d.tells → packages (d.files b).pkg after ≡ packages_of to =
      λ told. packages-blobs (d.files b).pkg after ∙ ap packages_of (done.stored.blobs_are told) in
      record {
        gathering = record {
          indexed = was.indexed;
          suspends = was.suspends;
          going = done.going;
          ordered = was.ordered;
          behind = omega (arith, was.behind, done.generation_is);
          clear = λ at. absurd (omega (arith, at, was.behind, done.generation_is));
          serving = λ told. record {
            keeps = done.stored.kept told;
            index = subst (λ (u : Units). KeepsUnits u index) (sym (idx told)) (was.serving told).index;
            quiet = done.stored.quiet told;
            durable = done.durable told;
          };
        };
        generation = done.generation_is;
        state_is = state_is;
        verdicts = λ told.
            verdicts_are change (d.files a).pkg (d.files b).pkg st after index index stopped stopped (state_is told) number at_number (sums told);
        rows = λ told. is told ∙ ap (λ (rs : List Row). with_rows owed rs adds) drops_are
            ∙ ap (with_rows owed (dropped_rows (state (d.files a).pkg st) change)) adds_are;
        owes = λ told o. record {
          from = o.from;
          has = subst (HasRows o.from) (sym (idx told)) o.has;
          balances = subst (λ (m : RowChange). Balances m (rows o.from) (rows (packages (d.files b).pkg after))) (sym (is told))
              (subst (λ (ps : finite.FinMap nat_cmp Package). Balances (with_rows owed drops adds) (rows o.from) (rows ps)) (sym (packages_are told))
              (balanced_on o));
          fits = λ other. subst (λ (ps : finite.FinMap nat_cmp Package). units_for (rows ps) ≤ 2 ^ 28) (sym (packages_are told)) (fits told o);
        };
        reach = λ told o.
            due_more (d.files a) (d.files b) (database_of st index stopped) (database_of after index stopped) owed more drops adds _ _ (idx told) was.clear
            (λ at. omega (arith, at, was.behind, done.generation_is)) (is told) few
            (ap (λ (s : State). units_for (rows s.packages)) (sym (state_is told)));
      }

-- where its rows only go, the index has room for those that are left
fits_asked : {D : Type 0} (d : disk.Ghosts D) (a : D) (st : Store) (index : Option hindex.IndexState) (stopped : Bool) (owed : RowChange)
    → IsGathering d a (database_of st index stopped) owed → (asked : PackageChange) → IsTrue d.tells → OwesOn d a (database_of st index stopped) owed
    → FitsAsked asked (units_for (rows (packages_of (blobs_asked asked (d.files a).pkg st))))
fits_asked d a st index stopped owed was (request.Put n view) told o = tt
fits_asked d a st index stopped owed was (request.Erase n) told o =
    let file = (d.files a).pkg in
    let most = owed_fits file (d.files a).idx st index stopped owed was.indexed was.ordered (was.serving told).index was.clear o in
    omega (arith, most, units_erased file st n)

-- a change of the store alone, by what was asked
pub gathers_asked : {D A : Type 0} (d : disk.Ghosts D) (a b : D) (st after : Store) (index : Option hindex.IndexState) (stopped : Bool) (owed more : RowChange)
    → IsGathering d a (database_of st index stopped) owed → (IsTrue d.tells → (d.files b).idx ≡ (d.files a).idx) → (result : Result A ChangeFault)
    → (asked : PackageChange) → IsOwnHeader asked → RoomIs (next_store (change_asked asked) st) st after result
    → OnOk result (IsPutAside d b st after (blobs_asked asked (d.files a).pkg st) (field_for (number_asked asked) st))
    → OnOk result (IsTrue d.tells → KeepsSums (number_for (number_asked asked) st) (d.files a).pkg (d.files b).pkg st after)
    → OnOk result (IsTrue d.tells → more ≡ with_rows owed (old_rows (number_asked asked) (packages (d.files a).pkg st)) (rows_asked asked st))
    → (IsTrue d.tells → TakesRows d a (with_rows owed (old_rows (number_asked asked) (packages (d.files a).pkg st)) (rows_asked asked st))
    (FitsAsked asked) result)
    → (IsTrue d.tells → AreLawful (d.left_since a (d.moment a)) → CrashLeavesOnly d a b (IsChangedStill (state (d.files a).pkg st)
    (state_of (blobs_asked asked (d.files a).pkg st) (field_for (number_asked asked) st)) (d.left_since a (d.moment a))))
    → Gathers d a b (change_asked asked) (database_of st index stopped) (database_of after index stopped) owed more result
gathers_asked d a b st after index stopped owed more was idx result asked own room done sums is takes crashes =
    let file = (d.files a).pkg in
    let drops = old_rows (number_asked asked) (packages file st) in
    let adds = rows_asked asked st in
    let to = blobs_asked asked file st in
    let images = d.left_since a (d.moment a) in
    let goes = state_asked file st asked own in
    let changed = rows_changed file st asked own in
    let there = rows_held (number_asked asked) (packages file st) in
    let fits : IsTrue d.tells → (o : OwesOn d a (database_of st index stopped) owed) → FullIndexIs (units_for (rows (packages_of to))) result =
    λ told o. (takes told).full told o.from (packages_of to) o.has (balanced_on d a st index stopped owed drops adds to changed there o)
    (fits_asked d a st index stopped owed was asked told o) in
    record {
      room = room;
      gathered = four_ok result (λ put kept gathers room_left.
          gathered d a st index stopped owed drops adds to changed there b after (change_asked asked) more (field_for (number_asked asked) st) was put idx goes
          gathers (units_asked file st asked own) (dropped_asked file st asked) (added_asked file st asked own) room_left
          (number_for (number_asked asked) st) (number_changed file st asked) kept) done sums is (fits_ok (units_for (rows (packages_of to))) result fits);
      full = λ told o. subst (λ (s : State). FullIndexIs (units_for (rows s.packages)) result) goes (fits told o);
      crashes = λ told lawful. subst (λ (s : State). CrashLeavesOnly d a b (IsChangedStill (state file st) s images)) goes (crashes told lawful);
    }

-- ---- a change on its own

-- where its rows only go, an index in order has room for those that are left
fits_alone : (file idx : Units) (st : Store) (index : hindex.IndexState) (asked : PackageChange) → hindex.is_in_order index ≡ true
    → hindex.KeepsIndexValue idx index
    → HasRows (packages file st) idx → FitsAsked asked (units_for (rows (packages_of (blobs_asked asked file st))))
fits_alone file idx st index (request.Put n view) order keeps has = tt
fits_alone file idx st index (request.Erase n) order keeps has =
    omega (arith, units_ordered idx index (packages file st) order keeps has, units_erased file st n)

module _ {D : Type 0} (d : disk.Ghosts D) (a : D) (st : Store) (index : hindex.IndexState) (owed : RowChange) (none : owed ≡ no_row_changes)
    (asked : PackageChange)
    (own : IsOwnHeader asked) where
  abbrev file : Units
  file = (d.files a).pkg

  abbrev all : RowChange
  all = with_rows owed (old_rows (number_asked asked) (packages file st)) (rows_asked asked st)

  abbrev alone : RowChange
  alone = with_rows no_row_changes (old_rows (number_asked asked) (packages file st)) (rows_asked asked st)

  balanced : Balances alone (rows (packages file st)) (rows (packages_of (blobs_asked asked file st)))
  balanced =
      balance_more no_row_changes (old_rows (number_asked asked) (packages file st)) (rows_asked asked st) (rows (packages file st)) (rows (packages file st))
      (rows (packages_of (blobs_asked asked file st))) (λ row. refl) (rows_changed file st asked own) (rows_held (number_asked asked) (packages file st))

  -- what the index takes
  pub takes_alone : {A : Type 0} (result : Result A ChangeFault) → hindex.is_in_order index ≡ true
      → (IsTrue d.tells → hindex.KeepsIndexValue (d.files a).idx index) → (IsTrue d.tells → TakesRows d a all (FitsAsked asked) result)
      → IndexIs d a (packages file st) (old_rows (number_asked asked) (packages file st))
      (units_for (rows (packages_of (blobs_asked asked file st)))) result
  takes_alone result order keeps takes =
      let here = λ (told : IsTrue d.tells).
      subst (λ (o : RowChange). TakesRows d a (with_rows o (old_rows (number_asked asked) (packages file st)) (rows_asked asked st)) (FitsAsked asked) result)
      none (takes told) in
      record {
        full = λ told has. (here told).full told (packages file st) (packages_of (blobs_asked asked file st)) has balanced
            (fits_alone file (d.files a).idx st index asked order (keeps told) has);
        bad = λ told. (here told).bad told;
      }

  -- and what its plan leads to
  pub leads_alone : (work : Work) → IsIndexPlanned d a index all work
      → LeadsTo d a index.units (packages file st) (packages_of (blobs_asked asked file st)) (rows_asked asked st) work
  leads_alone work plan =
      (subst (λ (o : RowChange). IsIndexPlanned d a index (with_rows o (old_rows (number_asked asked) (packages file st)) (rows_asked asked st)) work) none
      plan).leads
      (packages file st) (packages_of (blobs_asked asked file st)) balanced
