-- A course that was gone through on a database that was opened to be changed, as a command says it.
use Rattle.rpm_commit.proofs.Vocabulary.{at_index, BadBy, begun_store, by_index, Change, command_limit, Course, Damage, Database, DiskFault, Done, done_why, EmptyBy, CourseProgress}
use Rattle.rpm_commit.proofs.Vocabulary.{ended_as}
use Rattle.rpm_commit.proofs.Vocabulary.{exercise, exercise_ended, ExerciseFault, Files, limit_of_command, limit_of_changes, Halt, Halted, HasRows, HasStore, holds, idle}
use Rattle.rpm_commit.proofs.Vocabulary.{in_file, is_halt, is_there, IsCurrent, IsIndexed, IsLawful, IsNext, IsOfOpening, IsPaged, IsRefused, Keeps, LimitsBy}
use Rattle.rpm_commit.proofs.Vocabulary.{LimitsTurn, made_paged, is_rebuilt, makes_small, MayBegin, MeetsFirst, must_rebuild, nat_cmp, next_stores, none_gone, NotEmpty}
use Rattle.rpm_commit.proofs.Vocabulary.{OnceBegun, OpensBy, OpensIn, OpensOn, Outputs, Package, packages, reached_anew, reached_none, ChangesReachAnew}
use Rattle.rpm_commit.proofs.Vocabulary.{ReachesBy, HoldsAfterRebuild, store_of, RoomBecomes, Row, rows, rows_in, Runs, runs_then, SameLog, State, state, state_in, UncommittedProgress}
use Rattle.rpm_commit.proofs.Vocabulary.{MeetsLimit, with_spare}
use Rattle.rpm_commit.proofs.Vocabulary.{Store, store, stores_paged, Tally, Through, Units, units_for, units_needed, Why, why_of, why_of_halt, WorkBy}
use Rattle.rpm_commit.proofs.Vocabulary.{Work, WorksOn}
use Rattle.std.proofs.Common.{◌≡◌, ℕ, ◌≤◌, Bool, true, false, [], Option, None, Result, Ok, Err, refl, sym, ap, ◌∙◌, subst, inl, inr, ⊎_elim, arith, ◌^◌}
use Rattle.std.specs.Prelude.{IsTrue, IfOk, OnOk, List}
use Rattle.rpm_change.specs.Progress.{IsBlamed}
use Rattle.rpm_change.specs.Progress.{ProgressInBoth}
use Rattle.rpm_change.specs.Reaches.{all_added}
use Rattle.rpm_db.specs.Lawful.{IsWholeIndex}
use Rattle.rpm_db.specs.Reaches.{Gains}
use Rattle.rpm_commit.proofs.laws.Brokens.{done_unbroken, found_unmade, halt_blames, halt_unbroken, open_unbroken}
use Rattle.rpm_commit.proofs.laws.Emptied.{done_unheld, empty_unopened, empty_stopped, empty_done}
use Rattle.rpm_commit.proofs.FileReach.{reached_changed, reached_renewed}
use Rattle.rpm_commit.proofs.Halting.{halts, later_cause, made_unbroken, opening_kinds, same_halt}
use Rattle.rpm_commit.proofs.laws.Limited.{limits_done, limits_halt, limits_unopened, made_stops}
use Rattle.rpm_commit.proofs.laws.Unmade.{through_none}
use Rattle.rpm_commit.proofs.laws.Works.{halt_stopped, if_found, plain_stops, state-in_file, worked_by}
use Rattle.rpm_print.proofs.laws.Verified.{no_entry, from_one}
use Rattle.rpm_commit.proofs.laws.ByEnding.{by_opening}
use Rattle.rpm_outside.specs.declared.disk.Disk as disk
use Rattle.rpm_effects.specs.declared.tally.Halt.TheVariants as halt
use Rattle.rpm_effects.specs.declared.answer.Why.TheVariants as why
use Rattle.std.specs.FinMap as finite
use Rattle.rpm_hindex.specs.Sizes as sizes

-- ---- no packages

-- an index of no packages has room
no_rows : (map : finite.FinMap nat_cmp Package) → finite.entries map ≡ [] → units_for (rows map) ≤ 2 ^ 28
unfolding rows sizes.bucket_count sizes.live_of
no_rows map none =
    let same : rows map ≡ [] = ap rows_in none in
    let is : units_for [] ≡ 18 = refl in
    subst (λ (all : List Row). units_for all ≤ 2 ^ 28) (sym same) (omega (arith, is))

room_of_none : (file : Units) (db : Database) → Keeps file db → IsNext (λ m. holds m db) 0 None → units_for (rows (packages file (store_of db))) ≤ 2 ^ 28
room_of_none file db kept none =
    no_rows (packages file (store_of db))
    (sym (from_one file db kept) ∙ no_entry (packages file (store_of db)) 0 (λ k above. is_there file db k ∙ none k above))

-- so what refuses the first change that is refused comes first
pub renewed : (file : Units) (db : Database) (changes : List Change) (r : Result Tally Halt) → Keeps file db → IsNext (λ m. holds m db) 0 None
    → MeetsLimit true (limit_of_changes true (state file (store_of db)) (store_of db) changes) r
    → MeetsLimit true (limit_of_command true (state file (store_of db)) (store_of db) changes) r
renewed file db changes r kept none stops = subst (λ (first : Option Halt). MeetsLimit true first r)
    (sym (makes_small true (state file (store_of db)) (store_of db) changes (λ made. room_of_none file db kept none))) stops

stopped_open : (c : Course) (making : Bool) (needed : ℕ) (s : State) (new : Files) (w : Why) (before now : Outputs)
    → OpensIn making needed s new (Err w) → Through [] before now → UncommittedProgress c w before now
stopped_open c making needed s new w before now opens none =
    let some = none_gone c before now none in
    by_opening making needed s new (λ (given : Why). UncommittedProgress c given before now) (λ u full. some) some some w opens

unopened : (course : State → Course) (old new last : Files) (sr : Result Store Damage) (w : Why) (before now : Outputs) → OpensBy old sr new (Err w)
    → Through [] before now → WorkBy course old.pkg sr last (Err w) before now
unopened course old new last (Ok s) w before now opens none =
    stopped_open (course (state old.pkg s)) (must_rebuild old.idx (Ok s)) (units_needed old.pkg (Ok s)) (state old.pkg s) new w before now opens none
unopened course old new last (Err d) w before now opens none = (opens, none)

pub open_with : (anew changing : Bool) (course : State → Course) (old new : Files) (w : Why) (before now : Outputs) → OpensBy old (store old.pkg) new (Err w)
    → Through [] before now → Work anew changing course old new (Err w) before now
open_with anew changing course old new w before now opens none = record {
  went = unopened course old new new (store old.pkg) w before now opens none;
  bad = λ unit is. absurd (open_unbroken old new (store old.pkg) w unit opens is);
  made = tt;
  index = λ _. tt;
  stored = tt;
  reached = tt;
}

-- the disk tells its contents, and a shelf that is read does
abbrev Told : {D : Type 0} → disk.Ghosts D → Bool → Type 0 → Type 0
Told d reads Telling = IsTrue d.tells × (reads ≡ true → Telling)

module _ {D : Type 0} (d : disk.Ghosts D) (reads : Bool) (Telling : Type 0) (old mid : D) where
  pub unopened_works : (anew changing none : Bool) (course : State → Course) (x : Outputs) (w : Why)
      → (IsTrue d.tells → OpensBy (d.files old) (store (d.files old).pkg) (d.files mid) (Err w)) → IsOfOpening w → Runs d SameLog old mid → DiskFault d (w ≡
      why.DiskFault) old mid
      → WorksOn d anew changing none course (Told d reads Telling) x x old mid (Err w)
  unopened_works anew changing none course x w opens kind runs fault = record {
    worked = λ t. open_with anew changing course (d.files old) (d.files mid) w x x (opens t.0) (through_none x);
    limits = λ t. by_index (λ indexed may. limits_unopened indexed anew course (d.files old) (d.files mid) w (opens t.0));
    empty = λ t. empty none (opens t);
    halted = (opening_kinds w kind).0;
    runs = runs;
    disk = record { later = fault.later; rose = λ is. (let same : w ≡ why.DiskFault = cc in fault.rose same) };
  }
    where
      empty : (asks : Bool) → OpensBy (d.files old) (store (d.files old).pkg) (d.files mid) (Err w) → EmptyBy asks (d.files old) w
      empty true opened = empty_unopened (d.files old) (d.files mid) w opened
      empty false opened = (opening_kinds w kind).1

-- ---- opened

module _ {D : Type 0} (d : disk.Ghosts D) (trans : (a b c : D) → d.follows a b → d.follows b c → d.follows a c) (reads : Bool)
    (Telling : Type 0) (old mid : D) (db : Database)
    (opens : IsTrue d.tells → OpensBy (d.files old) (store (d.files old).pkg) (d.files mid) (Ok db)) (opened : OpensOn d old mid db)
    (runs : Runs d SameLog old mid) (later : d.faults old ≤ d.faults mid) where
  abbrev found : State
  found = state_in d mid db

  abbrev Lawful : Type 0
  Lawful = IsLawful (d.files old).pkg (d.files old).idx

  abbrev T : Type 0
  T = Told d reads Telling

  found_if : (told : IsTrue d.tells) (P : Store → State → Store → Type 0) → P (opened.found told).value found (store_of db)
      → IfOk (store (d.files old).pkg) (λ value. P value (state (d.files old).pkg value) (begun_store value))
  found_if told = if_found (d.files old) (d.files mid) db (opens told) (opened.found told)

  module _ (anew changing none : Bool) (course : State → Course) (new : D) (before behind : Outputs) where
    abbrev changes : List Change
    changes = (course found).changes

    abbrev Works : Result Tally Why → Type 0
    Works = WorksOn d anew changing none course T before behind old new

    -- what it meets first, where the index is asked or isn't
    abbrev Meets : IsTrue d.tells → (Bool → Option Halt → Type 0) → Type 0
    Meets told P = (indexed : Bool) → (indexed ≡ true → MayBegin anew Lawful)
        → P indexed (command_limit indexed (is_rebuilt anew (d.files old).idx (opened.found told).value) found (store_of db) changes)

    all_runs : Runs d SameLog mid new → Runs d SameLog old new
    all_runs more = runs_then d trans SameLog SameLog SameLog old mid new (λ x y log. log) (λ x y z first second. second ∙ first) runs more

    limits_at : (w : Why) (t : T) → Meets t.0 (λ indexed first. MeetsFirst indexed first w) → LimitsBy anew Lawful course (d.files old) w
    limits_at w t meets = by_index (λ indexed may. found_if t.0
        (λ value s v. MeetsFirst indexed (command_limit indexed (is_rebuilt anew (d.files old).idx value) s v (course s).changes) w) (meets indexed may))

    -- it was stopped
    stopped_works : (w : Why) → is_halt w ≡ true → (T → UncommittedProgress (course found) w before behind)
        → (T → BadBy changing (d.files old).pkg (d.files old).idx w)
        → ((t : T) → Meets t.0 (λ indexed first. MeetsFirst indexed first w)) → (IsTrue d.tells → EmptyBy none (d.files old) w) → Runs d SameLog mid new
        → DiskFault d (w ≡ why.DiskFault) mid new → Works (Err w)
    stopped_works w halts stopped bad meets empty more fault = record {
      worked = λ t. record {
        went = worked_by (d.files old) (d.files mid) db (opens t.0) (opened.found t.0) course (d.files new) (Err w) before behind (stopped t);
        bad = bad t;
        made = tt;
        index = λ _. tt;
        stored = tt;
        reached = tt;
      };
      limits = λ t. limits_at w t (meets t);
      empty = empty;
      halted = halts;
      runs = all_runs more;
      disk = record {
        later = omega (arith, later, fault.later);
        rose = λ is. (let same : w ≡ why.DiskFault = cc in (later_cause (d.faults old) (d.faults mid) (d.faults new) later fault).rose same);
      };
    }

    -- or gone through
    record Gone (told : IsTrue d.tells) (last : Database) (tally : Tally) : Type 0 where
      done : Done (course found) found (state_in d new last) tally before behind
      keeps : store (d.files new).pkg ≡ Ok (in_file (store_of last))
      paged : IsPaged (store_of last)
      stores : RoomBecomes (next_stores changes (store_of db)) (store_of db) (store_of last)
      index : MayBegin anew Lawful → IsIndexed (d.files new).pkg (d.files new).idx last
      first : Meets told (λ indexed first. first ≡ None)
      reached : ReachesBy anew Lawful course (d.files old) (d.files new)

    done_works : (last : Database) (tally : Tally) → ((t : T) → Gone t.0 last tally) → (IsTrue d.tells → EmptyBy none (d.files old) (done_why tally.failed))
        → Runs d SameLog mid new → d.faults mid ≤ d.faults new → Works (Ok tally)
    done_works last tally gone empty more less = record {
      worked = λ t.
          let it = gone t in
          record {
            went = worked_by (d.files old) (d.files mid) db (opens t.0) (opened.found t.0) course (d.files new) (Ok tally) before behind (
              in_file (store_of last),
              it.keeps,
              subst (λ (s : State). Done (course found) found s tally before behind) (sym (state-in_file (d.files new).pkg (store_of last))) it.done,
            );
            bad = λ unit is. absurd (done_unbroken tally.failed unit is);
            made = record { value = in_file (store_of last); undamaged = it.keeps; paged = it.paged };
            stored =
                found_if t.0 (λ value s v. HasStore v (course s).changes (d.files new).pkg)
                (with_spare (store_of db).spare (store_of last), it.stores, it.keeps);
            index = λ may. record {
              value = in_file (store_of last);
              undamaged = it.keeps;
              index = inr (
                (it.index may).current,
                subst (λ (s : State). HasRows s.packages (d.files new).idx) (sym (state-in_file (d.files new).pkg (store_of last))) (it.index may).rows_are,
              );
            };
            reached = it.reached;
          };
      limits = λ t. limits_at (done_why tally.failed) t (λ indexed may. limits_done indexed _ tally.failed ((gone t).first indexed may));
      empty = empty;
      halted = tt;
      runs = all_runs more;
      disk = record { later = omega (arith, later, less); rose = λ is. absurd cc };
    }

    halt_fault : (h : Halt) {r : Result Tally Halt} → DiskFault d (r ≡ Err halt.DiskFault) mid new → r ≡ Err h
        → DiskFault d (why_of_halt h ≡ why.DiskFault) mid new
    halt_fault h fault is = record {
      later = fault.later;
      rose = λ disk. fault.rose (is ∙ ap (λ (x : Halt). Err x) (same_halt h halt.DiskFault disk));
    }

  -- a database was made, where there was none
  pub made_works : (x : Outputs) → Runs d SameLog mid mid → WorksOn d false false false (λ s. idle) T x x old mid (Ok (record { failed = 0; changes = 0 }))
  made_works x same =
      let none : Tally = record { failed = 0; changes = 0 } in
      done_works false false false (λ s. idle) mid x x db none (λ t. record {
        done = record { steps = through_none x; failed = refl; changes = refl; state_is = refl };
        keeps = (opened.ready.serving t.0).keeps;
        paged = made_paged db opened.not_blank;
        stores = refl;
        index = opened.rows t.0;
        first = λ indexed may.
            plain_stops (d.files old) (d.files mid) db (opens t.0) (opened.found t.0) indexed (λ s. idle) (Ok none) refl;
        reached = by_index (λ indexed may. reached_changed indexed (λ s. idle) (d.files old) (d.files mid) (d.files mid) db (opens t.0) (opened.found t.0)
            (reached_none indexed found (store_of db) (d.files mid)) (inl (omega arith)));
      }) (λ tells. refl) same (omega arith)

  module _ (course : State → Course) (new : D) (last : Database) (before behind : Outputs) where
    -- its changes go into the index that is there
    pub went_works : {Said : Type 0} (says : T → Said) {Ends : Course → State → State → Result Tally Halt → Type 0}
        (r : Result Tally Halt) → ProgressInBoth d Said mid new db last r Ends (course found)
        → (T → CourseProgress (course found) found (state_in d new last) r before behind)
        → WorksOn d false true false course T before behind old new (ended_as r)
    went_works says (Ok tally) went ended = done_works false true false course new before behind last tally (λ t. record {
      done = ended t;
      keeps = (went.left.carried.serving t.0).keeps;
      paged = stores_paged (course found).changes (store_of db) (store_of last) (went.limits (says t)).always.stores
          (made_paged db opened.not_blank);
      stores = (went.limits (says t)).always.stores;
      index = λ lawful. went.left.carried.index t.0 (opened.rows t.0 lawful);
      first = λ indexed may. plain_stops (d.files old) (d.files mid) db (opens t.0) (opened.found t.0) indexed course (Ok tally)
          (at_index (went.limits (says t)) indexed (λ asked. opened.rows t.0 (may asked))).first;
      reached = by_index (λ indexed may. reached_changed indexed course (d.files old) (d.files mid) (d.files new) db (opens t.0) (opened.found t.0)
          (at_index (went.limits (says t)) indexed (λ asked. opened.rows t.0 (may asked))).reached
          (⊎_elim (λ rows. inl (((went.limits (says t)).indexed rows).reached.idx refl))
          (λ same. inr (subst (λ (u : Units). Gains (all_added found (course found).changes) u (d.files new).idx) same (went.given (says t))))
          (opened.finds t.0)));
    }) (λ tells. done_unheld tally.failed) went.left.runs went.left.disk.later
    went_works says (Err h) went ended = stopped_works false true false course new before behind (why_of_halt h) (halts h).halted
        (λ t. halt_stopped (course found) found (state_in d new last) h before behind (ended t))
        (λ t unit is.
        let broken = λ (was : IsWholeIndex (d.files mid).idx). halt_unbroken (d.files new).idx h unit (went.whole t.0 was) is in
        let same = found_unmade (d.files old).idx (d.files mid).idx (λ made. made.rows_are.whole) (opened.finds t.0) broken in
        (refl, opened.broken t.0 broken, subst (λ (u : Units). IsBlamed u unit) same (halt_blames (d.files mid).idx h unit (went.bad t.0) is)))
        (λ t indexed may. limits_halt indexed (is_rebuilt false (d.files old).idx (opened.found t.0).value) found (store_of db) (course found).changes h
        (plain_stops (d.files old) (d.files mid) db (opens t.0) (opened.found t.0) indexed course (Err h)
        (at_index (went.limits (says t)) indexed (λ asked. opened.rows t.0 (may asked))).first))
        (λ tells. (halts h).unheld) went.left.runs (halt_fault false true false course new before behind h went.left.disk refl)

    -- the index is made anew before them
    pub anew_works : (none : Bool) (r : Result Tally Halt) → (IsTrue d.tells → EmptyBy none (d.files old) (why_of (ended_as r)))
        → (T → CourseProgress (course found) found (state_in d new last) r before behind)
        → (IsTrue d.tells → MeetsLimit true (limit_of_command true found (store_of db) (course found).changes) r) → IfOk r (λ _tally. IsCurrent d new last)
        → OnOk r (IsTrue d.tells → RoomBecomes (next_stores (course found).changes (store_of db)) (store_of db) (store_of last))
        → OnOk r (IsTrue d.tells → ChangesReachAnew found (store_of db) (course found).changes (d.files mid) (d.files new)) → Runs d SameLog mid new
        → DiskFault d (r ≡ Err halt.DiskFault) mid new → WorksOn d true false none course T before behind old new (ended_as r)
    anew_works none (Ok tally) empty ended stops current stores reach more fault = done_works true false none course new before behind last tally (λ t. record {
      done = ended t;
      keeps = (current.ready.serving t.0).keeps;
      paged = stores_paged (course found).changes (store_of db) (store_of last) (stores t.0) (made_paged db opened.not_blank);
      stores = stores t.0;
      index = λ _. current.index t.0;
      first = λ indexed may. made_stops indexed true found (store_of db) (course found).changes (Ok tally) (stops t.0);
      reached =
          by_index (λ indexed may. reached_renewed indexed course (d.files old) (d.files mid) (d.files new) db (opens t.0) (opened.found t.0) (reach t.0));
    }) empty more fault.later
    anew_works none (Err h) empty ended stops current stores reach more fault = stopped_works true false none course new before behind
        (why_of_halt h) (halts h).halted
        (λ t. halt_stopped (course found) found (state_in d new last) h before behind (ended t))
        (λ t unit is. absurd (made_unbroken found (store_of db) (course found).changes h unit (stops t.0) is))
        (λ t indexed may. limits_halt indexed true found (store_of db) (course found).changes h
        (made_stops indexed true found (store_of db) (course found).changes (Err h) (stops t.0)))
        empty more (halt_fault true false none course new before behind h fault refl)

  -- ---- the exercise

  module _ (n : ℕ) (new : D) (last : Database) (before behind : Outputs) where
    abbrev made : List Change
    made = (exercise n found).changes

    abbrev Turns : Result Tally Halt → Type 0
    Turns r = HoldsAfterRebuild (units_needed (d.files mid).pkg (Ok (store_of db)))
        (λ files. LimitsTurn true found (store_of db) (store_of last) files (d.files new) made r) (d.files mid)

    pub exercise_works : (r : Result Tally ExerciseFault) → IsRefused (IsNext (λ m. holds m db) 0) r
        → ((held : ℕ) → r ≡ Err (NotEmpty held) → Through [] before behind)
        → (T → OnceBegun (λ x. CourseProgress (exercise n found) found (state_in d new last) x before behind) r)
        → (IsTrue d.tells → OnceBegun Turns r) → IfOk r (λ _tally. IsCurrent d new last) → Runs d SameLog mid new
        → DiskFault d (r ≡ Err (Halted halt.DiskFault)) mid new → WorksOn d true false true (λ s. exercise n s) T before behind old new (exercise_ended r)
    exercise_works (Ok tally) empty refused ended turns current more fault = anew_works (λ s. exercise n s) new last before behind true (Ok tally)
        (λ told. empty_done (d.files old) (d.files mid) db (opens told) (opened.found told) tally.failed empty) ended
        (λ told. renewed (d.files mid).pkg db made (Ok tally) (opened.ready.serving told).keeps empty (turns told).holds.first) current
        (λ told. (turns told).holds.stores)
        (λ told. (let turn = turns told in
        reached_anew found (store_of db) made (d.files mid) turn.mid (d.files new) turn.same turn.made turn.holds.reached))
        more (record { later = fault.later; rose = λ is. absurd cc })
    exercise_works (Err (Halted h)) empty refused ended turns current more fault = anew_works (λ s. exercise n s) new last before behind true (Err h)
        (λ told. empty_stopped (d.files old) (d.files mid) db (opens told) (opened.found told) (Halted h) empty) ended
        (λ told. renewed (d.files mid).pkg db made (Err h) (opened.ready.serving told).keeps empty (turns told).holds.first) tt tt tt more
        (record { later = fault.later; rose = λ is. (let same : h ≡ halt.DiskFault = cc in fault.rose (ap (λ (x : Halt). Err (Halted x)) same)) })
    exercise_works (Err (NotEmpty held)) empty refused ended turns current more fault =
        stopped_works true false true (λ s. exercise n s) new before behind (why.NotEmpty held) refl (λ t. refused held refl) (λ t unit is. absurd cc)
        (λ t indexed may. tt) (λ tells. empty_stopped (d.files old) (d.files mid) db (opens tells) (opened.found tells) (NotEmpty held) empty) more
        (record { later = fault.later; rose = λ is. absurd cc })
