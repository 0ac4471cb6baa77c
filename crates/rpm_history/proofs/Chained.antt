-- Command lines one after the other, each as `run` does it: the states to which they lead, and the numbers that they give.
use Rattle.std.proofs.Common.{◌≡◌, ℕ, ◌≤◌, Bool, true, List, [], ◌∷◌, ◌++◌, Ok, refl, sym, ap, ◌∙◌, subst, inl, inr, ⊎_elim, arith}
use Rattle.std.specs.Prelude.{IsTrue}
use Rattle.std.proofs.lemmas.List.{append-nil}
use Rattle.rpm_history.proofs.Vocabulary.{after, AllRowsFit, AllStand, AreLawfulDatabases, asks, Between, ChangesWith, Course, course_of, Cuts, Files, FromOneOf}
use Rattle.rpm_history.proofs.Vocabulary.{given_on, HasState, images, InTurn, InTurnBefore, is_done, LeadsByLines, leaves_then, leaves_weaker, CrashLeaves, LeavesState}
use Rattle.rpm_history.proofs.Vocabulary.{LineIs, LineStays, Moves, Paths, reopened_files, RowsFit, RunCall, Says, RepresentsState, started, State, state, Store, store}
use Rattle.rpm_history.proofs.Vocabulary.{Outputs, Run, run_of, TellsCalls, Units, Why}
use Rattle.rpm_commit.proofs.laws.Brokens.{by_bool}
use Rattle.rpm_history.proofs.Fitting.{course_fits}
use Rattle.rpm_history.proofs.Histories.{Cut, cut_stands, line_fits, LineDoes, Next, next_all, stands_weaker, moves_nothing}
use Rattle.rpm_history.proofs.Lined.{from_itself, from_one, line_does, line_changes}
use Rattle.rpm_history.proofs.Numbering.{Numbered, numbered_made, numbered_moved, given_nothing, given_undone, given_done}
use Rattle.rpm_commit.proofs.laws.Standing.{if_ok_at, ok_is}
use Rattle.rpm_outside.specs.declared.disk.Disk as disk
use Rattle.rpm_outside.specs.declared.shelf.Shelf as shelf
use Rattle.rpm_outside.specs.declared.sink.Sink as sink
use Rattle.rpm_effects.specs.declared.answer.Why.TheVariants as why

-- one more
pub in_turn_more : {X : Type 0} (Each : RunCall → X → X → Type 0) (calls : List RunCall) (call : RunCall) (old mid new : X) → InTurn Each calls old mid
    → Each call mid new → InTurn Each (calls ++ call ∷ []) old new
in_turn_more Each [] call old mid new same last = (new, subst (λ x. Each call x new) same last, refl)
in_turn_more Each (c ∷ calls) call old mid new (x, first, rest) last = (x, first, in_turn_more Each calls call x mid new rest last)

module _ {D S O E : Type 0} (d : disk.Ghosts D) (told : IsTrue d.tells) (s : shelf.Ghosts S) (o : sink.Ghosts O) (e : sink.Ghosts E) (paths : Paths)
    (as_read : (it : D) → d.left_since it (d.moment it) (d.files it))
    (earlier : (it : D) (at t : ℕ) (image : Files) → at ≤ t → t ≤ d.moment it → d.left_since it t image → d.left_since it at image) where
  abbrev Lines : List RunCall → Between D S O E → Between D S O E → Type 0
  Lines = InTurn (LineIs d s o e paths)

  abbrev course_in : RunCall → State → Course
  course_in call = course_of paths call.moment call.words (asks call.words)

  -- ---- the states

  abbrev LeadsFrom : (State → Type 0) → List RunCall → State → Type 0
  LeadsFrom P calls t = (m : State) × P m × LeadsByLines paths calls m t

  abbrev CutsFrom : (State → Type 0) → List RunCall → State → Type 0
  CutsFrom P calls t = (m : State) × P m × Cuts paths calls m t

  -- after them, within them, and that the rows fit meanwhile
  abbrev Led : (State → Type 0) → List RunCall → D → D → Type 0
  Led P calls old new = AllStand (LeadsFrom P calls) (images d new) × CrashLeaves d old new (RepresentsState (CutsFrom P calls))
      × (AllRowsFit (images d old) → CrashLeaves d old new RowsFit)

  -- a crash within a line, or within those behind it
  cut_within : (call : RunCall) (calls : List RunCall) (P : State → Type 0) (t : State) → Cut (course_in call) call.outcome.why P t
      → CutsFrom P (call ∷ calls) t
  cut_within call calls P t how = (
    how.0,
    how.1,
    ⊎_elim {C = Cuts paths (call ∷ calls) how.0 t}
        (λ same. ([], call ∷ calls, refl, same))
        (λ moves. (call ∷ [], calls, refl, (t, moves, refl)))
        how.2,
  )

  cut_behind : (call : RunCall) (calls : List RunCall) (P : State → Type 0) (t : State)
      → CutsFrom (Next (course_in call) call.outcome.why P) calls t → CutsFrom P (call ∷ calls) t
  cut_behind call calls P t (m, (from, p, moves), (first, rest, is, leads)) =
      (from, p, (call ∷ first, rest, ap (λ (cs : List RunCall). call ∷ cs) is, (m, moves, leads)))

  lines_led : (calls : List RunCall) (old new : Between D S O E) → TellsCalls s.tells calls → Lines calls old new → (P : State → Type 0)
      → AllStand P (images d old.disk) → Led P calls old.disk new.disk
  lines_led [] old new tells same P all =
      let itself : (image : Files) → images d old.disk image → RepresentsState (LeadsFrom P []) image =
      λ image left. stands_weaker P (LeadsFrom P []) image (λ t p. (t, p, refl)) (all image left) in
      let crashed : (image : Files) → images d old.disk image → RepresentsState (CutsFrom P []) image =
      λ image left. stands_weaker P (CutsFrom P []) image (λ t p. (t, p, ([], [], refl, refl))) (all image left) in
      subst (λ (b : Between D S O E). Led P [] old.disk b.disk) (sym same) (
        itself,
        started d old.disk (RepresentsState (CutsFrom P [])) crashed,
        started d old.disk RowsFit,
      )
  lines_led (call ∷ calls) old new tells (mid, line, rest) P all =
      let does = line_does d told s o e paths call old mid tells.0 line in
      let given = call.outcome.why in
      let P1 : State → Type 0 = Next (course_in call) given P in
      let Q : Files → Type 0 = RepresentsState (CutsFrom P (call ∷ calls)) in
      let here = as_read old.disk in
      let later = lines_led calls mid new tells.1 rest P1
      (next_all (run_of d s o e call old mid line.answers.mid) (course_in call) P all here (earlier mid.disk) does) in (
        λ image left. stands_weaker (LeadsFrom P1 calls) (LeadsFrom P (call ∷ calls)) image
            (λ t how. (how.1.0, how.1.1, (how.0, how.1.2, how.2))) (later.0 image left),
        leaves_then d old.disk mid.disk new.disk Q
            (leaves_weaker d old.disk mid.disk (RepresentsState (Cut (course_in call) given P)) Q
            (λ image. stands_weaker (Cut (course_in call) given P) (CutsFrom P (call ∷ calls)) image (cut_within call calls P))
            (cut_stands (run_of d s o e call old mid line.answers.mid) (course_in call) P all here does))
            (leaves_weaker d mid.disk new.disk (RepresentsState (CutsFrom P1 calls)) Q
            (λ image. stands_weaker (CutsFrom P1 calls) (CutsFrom P (call ∷ calls)) image (cut_behind call calls P)) later.1),
        λ fit.
            let so_far = line_fits (run_of d s o e call old mid line.answers.mid) (course_in call) P all here does fit in
            leaves_then d old.disk mid.disk new.disk RowsFit so_far (later.2 (λ image left. so_far.each image
            (earlier mid.disk (d.moment old.disk) (d.moment mid.disk) image so_far.later (omega arith) left))),
      )

  -- from the images at first
  pub lines_stand : (calls : List RunCall) (old new : Between D S O E) → TellsCalls s.tells calls → Lines calls old new
      → AreLawfulDatabases (images d old.disk)
      → AllStand (FromOneOf (images d old.disk) (LeadsByLines paths calls)) (images d new.disk)
      × CrashLeaves d old.disk new.disk (RepresentsState (FromOneOf (images d old.disk) (Cuts paths calls)))
      × (AllRowsFit (images d old.disk) → CrashLeaves d old.disk new.disk RowsFit)
  lines_stand calls old new tells lines lawful =
      let at = images d old.disk in
      let P : State → Type 0 = FromOneOf at (λ m t. t ≡ m) in
      let led = lines_led calls old new tells lines P (λ image left. from_itself at (λ m t. t ≡ m) (λ m. refl) image left (lawful image left)) in (
        λ image left. stands_weaker (LeadsFrom P calls) (FromOneOf at (LeadsByLines paths calls)) image (from_one at (LeadsByLines paths calls))
            (led.0 image left),
        leaves_weaker d old.disk new.disk (RepresentsState (CutsFrom P calls)) (RepresentsState (FromOneOf at (Cuts paths calls)))
            (λ image. stands_weaker (CutsFrom P calls) (FromOneOf at (Cuts paths calls)) image (from_one at (Cuts paths calls))) led.1,
        led.2,
      )

  -- ---- what stays of each

  -- from the state after changes that were done
  acknowledged : (call : RunCall) (calls : List RunCall) (old mid new : Between D S O E) → TellsCalls s.tells calls → Lines calls mid new
      → AreLawfulDatabases (images d mid.disk) → {anew changing : Bool} {printed : Outputs}
      → ChangesWith (run_of d s o e call old mid printed) anew changing (course_in call) → is_done call.outcome.why ≡ true
      → (value : Store) → store (reopened_files (d.files old.disk)).pkg ≡ Ok value
      → CrashLeaves d mid.disk new.disk (RepresentsState (Cuts paths calls (after (course_in call) (state (reopened_files (d.files old.disk)).pkg value))))
  acknowledged call calls old mid new tells rest lawful did done value undamaged =
      let made = after (course_in call) (state (reopened_files (d.files old.disk)).pkg value) in
      let P : State → Type 0 = λ t. t ≡ made in
      let held : (image : Files) → images d mid.disk image → HasState made image =
      if_ok_at _ (store (reopened_files (d.files old.disk)).pkg) value undamaged (did.held done) in
      leaves_weaker d mid.disk new.disk (RepresentsState (CutsFrom P calls)) (RepresentsState (Cuts paths calls made))
      (λ image. stands_weaker (CutsFrom P calls) (Cuts paths calls made) image
      (λ t how. subst (λ (m : State). Cuts paths calls m t) how.1 how.2))
      (lines_led calls mid new tells rest P (λ image left. record { lawful = lawful image left; says = held image left })).1

  pub lines_stay : (calls : List RunCall) (old new : Between D S O E) → TellsCalls s.tells calls → Lines calls old new
      → AreLawfulDatabases (images d old.disk) → InTurnBefore (LineStays d s o e paths) calls old new
  lines_stay [] old new tells same lawful = same
  lines_stay (call ∷ calls) old new tells (mid, line, rest) lawful =
      let at = images d old.disk in
      let P : State → Type 0 = FromOneOf at (λ m t. t ≡ m) in
      let all : AllStand P at = λ image left. from_itself at (λ m t. t ≡ m) (λ m. refl) image left (lawful image left) in
      let next = next_all (run_of d s o e call old mid line.answers.mid) (course_in call) P all (as_read old.disk) (earlier mid.disk)
      (line_does d told s o e paths call old mid tells.0 line) in
      let behind : AreLawfulDatabases (images d mid.disk) = λ image left. (next image left).lawful in
      let first = (all (d.files old.disk) (as_read old.disk)).says in (
        mid,
        record {
          line = line;
          since = (lines_stand calls mid new tells.1 rest behind).1;
          acknowledged = λ a tree task asked is done. ok_is _ (store (reopened_files (d.files old.disk)).pkg) first.value first.undamaged
              (acknowledged call calls old mid new tells.1 rest behind (line_changes d told s o e paths call old mid tells.0 line a tree task asked is) done
              first.value first.undamaged);
        },
        lines_stay calls mid new tells.1 rest behind,
      )

  -- ---- the numbers

  module _ (call : RunCall) (old new : Between D S O E) (line : LineIs d s o e paths call old new) (from : ℕ)
      (all : AllStand (Numbered from old.given) (images d old.disk)) where
    abbrev course : State → Course
    course = course_in call

    abbrev r : Run d
    r = run_of d s o e call old new line.answers.mid

    abbrev Rise : List ℕ → Type 0
    Rise ns = AllStand (Numbered from ns) (images d new.disk)

    -- where it gave none
    kept : AllStand (Next course call.outcome.why (Numbered from old.given)) (images d new.disk)
        → given_on course (d.files old.disk) call.outcome.why ≡ [] → Rise new.given
    kept next none = subst Rise
        (sym (line.gives ∙ ap (λ (ns : List ℕ). old.given ++ ns) none ∙ append-nil old.given))
        (λ image left. stands_weaker (Next course call.outcome.why (Numbered from old.given)) (Numbered from old.given) image
        (λ t how. numbered_moved course (course_fits paths call.moment call.words (asks call.words)) from old.given call.outcome.why how.0 t how.1 how.2)
        (next image left))

    -- where it was done, and changed packages
    made : AllStand (Next course call.outcome.why (Numbered from old.given)) (images d new.disk) → {anew changing : Bool}
        → ChangesWith r anew changing course → is_done call.outcome.why ≡ true → Rise new.given
    made next did done image left =
        let first : Says (Numbered from old.given) (reopened_files (d.files old.disk)).pkg = (all (d.files old.disk) (as_read old.disk)).says in
        let s0 = state (reopened_files (d.files old.disk)).pkg first.value in
        let has : HasState (after course s0) image =
        if_ok_at _ (store (reopened_files (d.files old.disk)).pkg) first.value first.undamaged (did.held done) image left in
        record {
          lawful = (next image left).lawful;
          says = record {
            value = has.value;
            undamaged = has.undamaged;
            is = subst (λ (t : State). Numbered from new.given t) (sym has.is)
                (subst (λ (ns : List ℕ). Numbered from ns (after course s0)) (sym (line.gives ∙ ap (λ (ns : List ℕ). old.given ++ ns)
                (given_done course (d.files old.disk) call.outcome.why first.value first.undamaged done)))
                (numbered_made course (course_fits paths call.moment call.words (asks call.words)) from old.given s0 first.is));
          };
        }

    line_rises : LineDoes r course → Rise new.given
    line_rises does = rises does
        (next_all r course (Numbered from old.given) all (as_read old.disk) (earlier new.disk) does)
      where
        rises : LineDoes r course
            → AllStand (Next course call.outcome.why (Numbered from old.given)) (images d new.disk) → Rise new.given
        rises (inl stood) next = kept next (given_nothing course stood.nothing (d.files old.disk) call.outcome.why)
        rises (inr (anew, changing, did)) next = by_bool (is_done call.outcome.why) (made next did)
            (λ undone. kept next (given_undone course (d.files old.disk) call.outcome.why undone))

  pub lines_rise : (calls : List RunCall) (old new : Between D S O E) (from : ℕ) → TellsCalls s.tells calls → Lines calls old new
      → AllStand (Numbered from old.given) (images d old.disk) → AllStand (Numbered from new.given) (images d new.disk)
  lines_rise [] old new from tells same all = subst (λ (b : Between D S O E). AllStand (Numbered from b.given) (images d b.disk)) (sym same) all
  lines_rise (call ∷ calls) old new from tells (mid, line, rest) all = lines_rise calls mid new from tells.1 rest
      (line_rises call old mid line from all (line_does d told s o e paths call old mid tells.0 line))

-- the files represent a state to which the line moves
abbrev Stands : Why → State → State → Files → Type 0
Stands w made s files = (t : State) × HasState t files × Moves w made s t

module _ (course : State → Course) (s : State) (n : ℕ) (files : Files) where
  left_moves : (w : Why) → LeavesState course s w n files → Stands w (after course s) s files
  left_moves why.Done left = (after course s, left.1, refl)
  left_moves (why.Failed k) left = (after course s, left.1, refl)
  left_moves why.DiskFault left = ⊎_elim (λ was. (s, was, inl refl)) (λ made. (after course s, made, inr refl)) left.1
  left_moves others left = (s, left.1, refl)

module _ {D : Type 0} {d : disk.Ghosts D} (r : Run d) where
  line_moves : (course : State → Course) (s : State) → HasState s (d.files r.found) → LineDoes r course
      → Stands r.why (after course s) s (d.files r.left)
  line_moves course s has (inl stood) =
      (s, subst (λ (pkg : Units). Says (λ t. t ≡ s) pkg) (sym stood.pkg) has, moves_nothing course stood.nothing r.why s)
  line_moves course s has (inr (anew, changing, did)) = left_moves course s r.changes (d.files r.left) r.why
      (subst (λ (t : State). LeavesState course t r.why r.changes (d.files r.left)) has.is
      (if_ok_at _ (store (reopened_files (d.files r.found)).pkg) has.value has.undamaged did.state_is))

module _ {D S O E : Type 0} (d : disk.Ghosts D) (told : IsTrue d.tells) (s : shelf.Ghosts S) (o : sink.Ghosts O) (e : sink.Ghosts E) (paths : Paths) where
  pub lines_lead : (calls : List RunCall) (old new : Between D S O E) → TellsCalls s.tells calls → InTurn (LineIs d s o e paths) calls old new
      → (m : State) → HasState m (d.files old.disk) → (t : State) × HasState t (d.files new.disk) × LeadsByLines paths calls m t
  lines_lead [] old new tells same m has = (m, subst (λ (b : Between D S O E). HasState m (d.files b.disk)) (sym same) has, refl)
  lines_lead (call ∷ calls) old new tells (mid, line, rest) m has =
      let first = line_moves (run_of d s o e call old mid line.answers.mid) _ m has (line_does d told s o e paths call old mid tells.0 line) in
      let later = lines_lead calls mid new tells.1 rest first.0 first.1 in
      (later.0, later.1, (first.0, first.2, later.2))
