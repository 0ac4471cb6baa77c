-- A course on a disk and a database: another one that is the same, and one and then another.
use Rattle.std.proofs.Common.{◌≡◌, ◌+◌, ◌⊎◌, inl, inr, ℕ, Bool, true, false, List, [], ◌∷◌, ◌++◌, Result, Ok, Err, refl}
use Rattle.std.proofs.Common.{sym, ap, ◌∙◌, subst, arith}
use Rattle.std.proofs.lemmas.List.{append-nil, append_assoc}
use Rattle.std.specs.Prelude.{IsTrue, IfErr, OnOk}
use Rattle.rpm_outside.specs.declared.disk.Disk as disk
use Rattle.rpm_outside.specs.declared.sink.Sink as sink
use Rattle.rpm_outside.specs.declared.buffered.Buffered.{Buffered}
use Rattle.rpm_outside.specs.Causes.{HasCauseAt}
use Rattle.rpm_outside.specs.Files.{Files, Units}
use Rattle.rpm_pkgdb.specs.Store.{Store}
use Rattle.rpm_db.specs.declared.change_fault.ChangeFault.{ChangeFault}
use Rattle.rpm_db.specs.declared.change_fault.ChangeFault.TheVariants as fault
use Rattle.rpm_db.specs.Changes.{Change, apply}
use Rattle.rpm_db.specs.Database.{Database, is_indexed}
use Rattle.rpm_db.specs.Frame.{Runs, state_in}
use Rattle.rpm_db.specs.Database.{store_of}
use Rattle.rpm_db.specs.Lawful.{IsWholeIndex}
use Rattle.rpm_db.specs.Reaches.{added_rows}
use Rattle.rpm_db.specs.declared.netting.RowChange.{RowChange}
use Rattle.rpm_db.specs.Refusals.{BadCause, WholeCause}
use Rattle.rpm_hindex.specs.Rows.{Row}
use Rattle.rpm_db.specs.State.{State}
use Rattle.rpm_db.specs.Runs.{SameLog}
use Rattle.rpm_effects.specs.declared.tally.Tally.{Tally}
use Rattle.rpm_effects.specs.declared.tally.Halt.{Halt}
use Rattle.rpm_effects.specs.declared.tally.Halt.TheVariants as halt
use Rattle.rpm_change.specs.Reaches.{all_added}
use Rattle.rpm_change.specs.Progress.{BadTurn, WholeTurn, EndStateBy, OwesAdded, ProgressBy}
use Rattle.rpm_effects.specs.Progress.{IsOfLines, halt_of}
use Rattle.rpm_change.specs.Limits.{LimitsTurn, is_limit}
use Rattle.rpm_effects.specs.Lines.{Fails}
use Rattle.rpm_effects.specs.Steps.{Bearer, Course, ToErr, course_of_failure, idle, joined_courses, apply_all}
use Rattle.rpm_effects.specs.Shown.{EndedOnErr}
use Rattle.rpm_change.specs.inner.IndexLaws.{at_index, by_index}
use Rattle.rpm_change.proofs.laws.Leaving.{none_by, after_by, then_by, halt_bad, halted_by, whole_halt}
use Rattle.rpm_change.proofs.laws.LimitLaws.{limits_none, limits_more, limits_stop, limits_counted}
use Rattle.rpm_change.proofs.laws.Single.{none_made, other_stop}
use Rattle.rpm_effects.proofs.laws.Courses.{plus, idle_joined}
use Rattle.rpm_effects.proofs.laws.Joins.{PartsJoined, err_gone, no_tally}

-- ---- lines

pub line_limits : {files : Files} (i : Bool) (s : State) (v w : Store) (r : Result Tally Halt) → w ≡ v
    → IfErr r IsOfLines
    → LimitsTurn i s v w files files [] r
line_limits i s v w (Ok tally) same kinds = none_made i s v w tally same
line_limits i s v w (Err h) same kinds =
    other_stop i s v w [] h (elim kinds [ inl is ↦ rw is refl | inr is ↦ rw is refl ])

line_whole : (idx : Units) (r : Result Tally Halt) → IfErr r IsOfLines → IsWholeIndex idx → WholeTurn idx r
line_whole idx (Ok tally) kinds whole = whole
line_whole idx (Err h) kinds whole = elim kinds [ inl is ↦ rw is tt | inr is ↦ rw is tt ]

line_bad : (idx : Units) (r : Result Tally Halt) → IfErr r IsOfLines → BadTurn idx r
line_bad idx (Ok tally) kinds = tt
line_bad idx (Err h) kinds = elim kinds [ inl is ↦ rw is tt | inr is ↦ rw is tt ]

line_disk : (r : Result Tally Halt) → IfErr r IsOfLines → r ≡ Err halt.DiskFault → ⊥
line_disk (Ok tally) kinds is = cc
line_disk (Err h) kinds is = elim kinds [ inl line ↦ cc | inr none ↦ cc ]

-- ---- on a disk and a database

whole_plus : (idx : Units) (one : Tally) (r : Result Tally Halt) → WholeTurn idx r → WholeTurn idx (plus one r)
whole_plus idx one (Ok more) whole = whole
whole_plus idx one (Err h) whole = whole

ok_any : {X : Type 0} (r : Result Tally Halt) → X → OnOk r X
ok_any (Ok tally) x = x
ok_any (Err h) x = tt

ok_plus : {X Y : Type 0} (one : Tally) (r : Result Tally Halt) → (X → Y) → OnOk r X → OnOk (plus one r) Y
ok_plus one (Ok next) f x = f x
ok_plus one (Err h) f x = tt

-- the rows that some changes add and then those that the others add
all_added-append : (xs ys : List Change) (s : State)
    → all_added s (xs ++ ys) ≡ all_added s xs ++ all_added (apply_all xs s) ys
all_added-append [] ys s = refl
all_added-append (x ∷ xs) ys s =
    ap (λ (rows : List Row). added_rows s x ++ rows) (all_added-append xs ys (apply x s))
    ∙ sym (append_assoc (added_rows s x) (all_added (apply x s) xs) (all_added (apply_all xs (apply x s)) ys))

added_then : (owed some more : RowChange) (xs ys : List Change) (s t : State) → t ≡ apply_all xs s
    → OwesAdded owed some xs s
    → OwesAdded some more ys t → OwesAdded owed more (xs ++ ys) s
added_then owed some more xs ys s t is first second =
    record {
      adds =
          second.adds
          ∙ ap (λ (rows : List Row). rows ++ all_added t ys) first.adds
          ∙ append_assoc owed.adds (all_added s xs) (all_added t ys)
          ∙ ap (λ (u : State). owed.adds ++ (all_added s xs ++ all_added u ys)) is
          ∙ ap (λ (rows : List Row). owed.adds ++ rows) (sym (all_added-append xs ys s));
    }

bad_plus : (idx : Units) (one : Tally) (r : Result Tally Halt) → BadTurn idx r → BadTurn idx (plus one r)
bad_plus idx one (Ok more) bad = tt
bad_plus idx one (Err h) bad = bad

-- a stop that leaves a whole index whole blames no unit
pub whole_bad : (new old : Units) (h : Halt) → WholeTurn new (Err h) → BadTurn old (Err h)
whole_bad new old (halt.BadIndex unit) whole = absurd whole
whole_bad new old others whole = tt

module _ {D : Type 0} (d : disk.Ghosts D) where
  left_plus : (C : Type 0) (old new : D) (after : Database) (one : Tally) (r : Result Tally Halt)
      → EndStateBy d C old new after r
      → EndStateBy d C old new after (plus one r)
  left_plus C old new after one (Ok more) left =
      after_by d C old new after more left (plus one (Ok more)) (λ is. absurd cc)
  left_plus C old new after one (Err h) left = left

  -- the same course, where it is told
  pub went_as : {C A T U : Type 0} {G : List Change → State → Type 0} {from to : Files} {old new : D}
      {before after : Database} {r : Result Tally Halt}
      {E F : Course → State → State → Result Tally Halt → Type 0} (a b : Course) → (U → T) → (U → a ≡ b)
      → ((s t : State) → E a s t r → F a s t r)
      → ProgressBy d C A T G from to old new before after r E a
      → ProgressBy d C A U G from to old new before after r F b
  went_as {G = G} {from = from} {to = to} {old = old} {new = new} {before = before} {after = after} {r = r}
      {F = F} a b told same ends w = record {
        ended = λ u.
            subst (λ (x : Course). F x (state_in d old before) (state_in d new after) r) (same u)
            (ends (state_in d old before) (state_in d new after) (w.ended (told u)));
        limits = λ u. by_index (λ i rows.
            subst (λ (x : Course). LimitsTurn i (state_in d old before) (store_of before)
            (store_of after) from to x.changes r) (same u) (at_index (w.limits (told u)) i rows));
        whole = w.whole;
        bad = w.bad;
        given = λ u.
            subst (λ (x : Course). OnOk r (G x.changes (state_in d old before))) (same u) (w.given (told u));
        left = w.left;
      }

  -- it was stopped, and not by a limit
  pub stopped_went : {C A T : Type 0} {G : List Change → State → Type 0} {from to : Files} {old new : D}
      {before after : Database}
      {E : Course → State → State → Result Tally Halt → Type 0} (course : Course) (h : Halt)
      → ((s t : State) → E course s t (Err h)) → ((i : Bool) → is_limit i h ≡ false)
      → WholeTurn (d.files new).idx (Err h)
      → EndStateBy d C old new after (Err h) → ProgressBy d C A T G from to old new before after (Err h) E course
  stopped_went {old = old} {new = new} {before = before} {after = after} course h ends other whole left = record {
    ended = λ told. ends (state_in d old before) (state_in d new after);
    limits = λ told. by_index (λ i rows.
        other_stop i (state_in d old before) (store_of before) (store_of after) course.changes h (other i));
    whole = λ told was. whole;
    bad = λ told. whole_bad (d.files new).idx (d.files old).idx h whole;
    given = λ told. tt;
    left = left;
  }

  -- nothing was done
  module _ (stays : (x : D) → d.follows x x) {C A T : Type 0} {owed : RowChange} {from : Files} (carried : C) (at : D)
      (db : Database)
      (indexed : is_indexed db ≡ true) where
    pub none_went : {E : Course → State → State → Result Tally Halt → Type 0}
        → E idle (state_in d at db) (state_in d at db) (Ok no_tally)
        → ProgressBy d C A T (OwesAdded owed owed) from from at at db db (Ok no_tally) E idle
    none_went ends = record {
      ended = λ told. ends;
      limits = λ told. by_index (λ i rows. limits_none i (state_in d at db) (store_of db) no_tally);
      whole = λ told whole. whole;
      bad = λ told. tt;
      given = λ told. record { adds = sym (append-nil owed.adds) };
      left = none_by d stays C carried at db indexed (Ok no_tally) (λ is. cc);
    }

  -- but for a line
  pub line_by : {S C A T : Type 0} {G : List Change → State → Type 0} {from to : Files} {old new : D}
      {before after : Database}
      (e : sink.Ghosts S) {line : List ℕ} {x y : Buffered S} (r : Result Tally Halt) (for : Bearer)
      → (T → state_in d new after ≡ state_in d old before) → (store_of after) ≡ (store_of before) → (T → to ≡ from)
      → (IsTrue d.tells → (d.files new).idx ≡ (d.files old).idx) → (T → G [] (state_in d old before))
      → ((r ≡ Err halt.DiskFault → ⊥) → EndStateBy d C old new after r) → Fails e line x y r
      → ProgressBy d C A T G from to old new before after r (EndedOnErr e x y) (course_of_failure (ToErr for line))
  line_by {from = from} {old = old} {new = new} {before = before} {after = after} e {line = line} {x = x}
      {y = y} r for state store files idx none left
      fails = record {
        ended = λ told.
            subst (λ (t : State). EndedOnErr e x y (course_of_failure (ToErr for line)) (state_in d old before) t r)
            (sym (state told))
            (fails.ended for (state_in d old before));
        limits = λ told. by_index (λ i rows.
            subst (λ (f : Files). LimitsTurn i (state_in d old before) (store_of before) (store_of after) from f [] r)
            (sym (files told))
            (line_limits i (state_in d old before) (store_of before) (store_of after) r store fails.kinds));
        whole = λ told was. line_whole (d.files new).idx r fails.kinds (subst IsWholeIndex (sym (idx told)) was);
        bad = λ told. line_bad (d.files old).idx r fails.kinds;
        given = λ told. ok_any r (none told);
        left = left (line_disk r fails.kinds);
      }

  module _ (stays : (x : D) → d.follows x x) {S C A T : Type 0} {owed : RowChange} {from : Files} (carried : C) (at : D)
      (db : Database)
      (indexed : is_indexed db ≡ true) (e : sink.Ghosts S) where
    pub line_went : {line : List ℕ} {x y : Buffered S} (r : Result Tally Halt) (for : Bearer) → Fails e line x y r
        → ProgressBy d C A T (OwesAdded owed owed) from from at at db db r (EndedOnErr e x y)
        (course_of_failure (ToErr for line))
    line_went r for = line_by e r for (λ told. refl) refl (λ told. refl) (λ told. refl)
        (λ told. record { adds = sym (append-nil owed.adds) })
        (λ other. none_by d stays C carried at db indexed r other)

    -- or for a read that fails
    pub reading_went : (x : Buffered S) (course : Course) (h : Halt) → (h ≡ halt.ShelfFault) ⊎ (h ≡ halt.NoMemory)
        → ProgressBy d C A T (OwesAdded owed owed) from from at at db db (Err h) (EndedOnErr e x x) course
    reading_went x course h kind = elim kind [
      | inl is ↦ rw is (stopped_went course halt.ShelfFault (λ s t. err_gone e x course) (λ i. refl) tt
          (none_by d stays C carried at db indexed (Err halt.ShelfFault) (λ same. cc)))
      | inr is ↦ rw is (stopped_went course halt.NoMemory (λ s t. err_gone e x course) (λ i. refl) tt
          (none_by d stays C carried at db indexed (Err halt.NoMemory) (λ same. cc)))
    ]

  -- a change was refused
  pub halted_went : {C A T X : Type 0} {G : List Change → State → Type 0} {from to : Files} {old new : D}
      {before after : Database}
      {E : Course → State → State → Result Tally Halt → Type 0} (course : Course) (f : ChangeFault) (h : Halt)
      → h ≡ halt_of f
      → ((s t : State) → E course s t (Err (halt_of f)))
      → (T → (i : Bool) → (i ≡ true → A)
      → LimitsTurn i (state_in d old before) (store_of before) (store_of after) from to course.changes
      (Err (halt_of f)))
      → (IsTrue d.tells → IsWholeIndex (d.files old).idx → WholeCause f) → (drops : List Row)
      → (IsTrue d.tells → BadCause drops (d.files old).idx f)
      → is_indexed after ≡ true → Runs d SameLog old new
      → HasCauseAt X (d.faults old) (d.faults new) → (f ≡ fault.DiskFault → X)
      → ProgressBy d C A T G from to old new before after (Err h) E course
  halted_went {C = C} {old = old} {new = new} {before = before}
      {after = after} course f h is ends limits whole drops bad indexed runs cause
      failed = rw is (record {
        ended = λ told. ends (state_in d old before) (state_in d new after);
        limits = λ told. by_index (limits told);
        whole = λ told was. whole_halt (d.files new).idx f (whole told was);
        bad = λ told. halt_bad drops (d.files old).idx f (bad told);
        given = λ told. tt;
        left = halted_by d C old new after runs cause.later indexed f (λ at. cause.rose (failed at));
      })

  -- ---- one part and then another

  limits_then : {from mid to : Files} (i : Bool) (xs ys : List Change) (s t : State) (v w x : Store) (one : Tally)
      → t ≡ apply_all xs s
      → LimitsTurn i s v w from mid xs (Ok one) → (r : Result Tally Halt) → LimitsTurn i t w x mid to ys r
      → LimitsTurn i s v x from to (xs ++ ys) (plus one r)
  limits_then i xs ys s t v w x one is first (Ok more) second =
      limits_more i xs ys s t v w x one is first more
      (record { failed = one.failed + more.failed; changes = one.changes + more.changes }) second
  limits_then {from = from} {to = to} i xs ys s t v w x one is first (Err h) second =
      subst (λ (cs : List Change). LimitsTurn i s v x from to (xs ++ cs) (Err h)) (append-nil ys)
      (limits_stop i xs ys s t v w x one is first [] h second)

  module _ (joins : (x y z : D) → d.follows x y → d.follows y z → d.follows x z) {A B C P Q T : Type 0}
      {owed some more : RowChange}
      {from mid to : Files} {old at new : D} {before db after : Database} {one : Tally}
      {E F G : Course → State → State → Result Tally Halt → Type 0} (ends : PartsJoined E F G)
      (carries : A → B → C) (asks : A → T → P → Q) (stays : A → IsTrue d.tells → (d.files at).idx ≡ (d.files old).idx)
      (a : Course)
      (first : ProgressBy d A P T (OwesAdded owed some) from mid old at before db (Ok one) E a) where
    pub went_then : (b : Course) (r : Result Tally Halt)
        → ProgressBy d B Q T (OwesAdded some more) mid to at new db after r F b
        → ProgressBy d C P T (OwesAdded owed more) from to old new before after (plus one r) G (joined_courses a b)
    went_then b r second = record {
      ended = λ told.
          ends.both a b (state_in d old before) (state_in d at db) (state_in d new after) one r (first.ended told)
          (second.ended told);
      limits = λ told. by_index (λ i rows.
          limits_then i a.changes b.changes (state_in d old before) (state_in d at db) (store_of before) (store_of db)
          (store_of after) one
          (ends.state_is a (state_in d old before) (state_in d at db) one (first.ended told))
          (at_index (first.limits told) i rows) r
          (at_index (second.limits told) i (λ is. asks first.left.carried told (rows is))));
      whole = λ told was. whole_plus (d.files new).idx one r (second.whole told (first.whole told was));
      bad = λ told.
          bad_plus (d.files old).idx one r (subst (λ (idx : Units). BadTurn idx r) (stays first.left.carried told)
          (second.bad told));
      given = λ told.
          ok_plus one r (added_then owed some more a.changes b.changes (state_in d old before) (state_in d at db)
          (ends.state_is a (state_in d old before) (state_in d at db) one (first.ended told)) (first.given told))
          (second.given told);
      left =
          left_plus C old new after one r (then_by d joins A B C carries old at new db after one r first.left
          second.left);
    }

  abbrev ok_of : ℕ → ℕ → Result Tally Halt
  ok_of failed changes = Ok (record { failed = failed; changes = changes })

  plus_none : (r : Result Tally Halt) → plus no_tally r ≡ r
  plus_none (Ok tally) =
      let a : 0 + tally.failed ≡ tally.failed = omega arith in
      let b : 0 + tally.changes ≡ tally.changes = omega arith in
      ap (λ (n : ℕ). ok_of n (0 + tally.changes)) a ∙ ap (ok_of tally.failed) b
  plus_none (Err h) = refl

  -- nothing, and then a course
  pub went_behind : (joins : (x y z : D) → d.follows x y → d.follows y z → d.follows x z) {A B C P Q T : Type 0}
      {owed some more : RowChange}
      {from mid to : Files} {old at new : D} {before db after : Database}
      {E F G : Course → State → State → Result Tally Halt → Type 0}
      (ends : PartsJoined E F G) (carries : A → B → C)
      (asks : A → T → P → Q) (stays : A → IsTrue d.tells → (d.files at).idx ≡ (d.files old).idx) (b : Course)
      (r : Result Tally Halt)
      → ProgressBy d A P T (OwesAdded owed some) from mid old at before db (Ok no_tally) E idle
      → ProgressBy d B Q T (OwesAdded some more) mid to at new db after r F b
      → ProgressBy d C P T (OwesAdded owed more) from to old new before after r G b
  went_behind joins {C = C} {P = P} {T = T} {owed = owed} {more = more} {from = from} {to = to} {old = old} {new = new}
      {before = before}
      {after = after} {G = G} ends carries asks stays b r first second =
      subst (λ (x : Result Tally Halt). ProgressBy d C P T (OwesAdded owed more) from to old new before after x G b)
      (plus_none r)
      (went_as (joined_courses idle b) b (λ told. told) (λ told. idle_joined b) (λ s t e. e)
      (went_then joins ends carries asks stays idle first b r second))

  -- a course that was stopped, whatever was to come after it
  pub went_ahead : {C P T : Type 0} {G : List Change → State → Type 0} {from to : Files} {old new : D}
      {before after : Database} {h : Halt}
      {F : Course → State → State → Result Tally Halt → Type 0}
      → ((a b : Course) (s t : State) (h : Halt) → F a s t (Err h) → F (joined_courses a b) s t (Err h))
      → (a b : Course)
      → ProgressBy d C P T G from to old new before after (Err h) F a
      → ProgressBy d C P T G from to old new before after (Err h) F (joined_courses a b)
  went_ahead {from = from} {old = old} {new = new} {before = before} {after = after} {h = h} ahead a b w = record {
    ended = λ told. ahead a b (state_in d old before) (state_in d new after) h (w.ended told);
    limits = λ told. by_index (λ i rows.
        limits_stop i [] a.changes (state_in d old before) (state_in d old before) (store_of before) (store_of before)
        (store_of after) no_tally refl
        (limits_none {files = from} i (state_in d old before) (store_of before) no_tally) b.changes h
        (at_index (w.limits told) i rows));
    whole = w.whole;
    bad = w.bad;
    given = λ told. tt;
    left = w.left;
  }

  -- however it is counted
  pub counted_went : {C A T : Type 0} {G : List Change → State → Type 0} {from to : Files} {old new : D}
      {before after : Database}
      {E : Course → State → State → Result Tally Halt → Type 0} (course : Course) (a b : Tally) → (T → a ≡ b)
      → ProgressBy d C A T G from to old new before after (Ok a) E course
      → ProgressBy d C A T G from to old new before after (Ok b) E course
  counted_went {C = C} {old = old} {new = new} {before = before} {after = after} {E = E} course a b same w = record {
    ended = λ told. subst (λ (tally : Tally). E course (state_in d old before) (state_in d new after) (Ok tally))
        (same told) (w.ended told);
    limits = λ told. by_index (λ i rows.
        limits_counted i (state_in d old before) (store_of before) (store_of after) course.changes a b
        (at_index (w.limits told) i rows));
    whole = w.whole;
    bad = λ told. tt;
    given = w.given;
    left = after_by d C old new after a w.left (Ok b) (λ is. absurd cc);
  }
