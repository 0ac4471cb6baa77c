-- A command line more, by what `run` says of it.
use Rattle.std.proofs.Common.{◌≡◌, ℕ, Bool, true, false, List, [], ◌∷◌, ◌++◌, length, ◌<◌, get_or, refl, sym, ap, subst, inl, inr, arith, ◌∙◌, Some}
use Rattle.std.specs.Prelude.{Option, Some, None, IsTrue}
use Rattle.std.specs.Option.{option_map_or}
use Rattle.rpm_history.proofs.Vocabulary.{Adding, asked_task, AskParts, asks, Between, by_key, calls_of, changes_index, Course, course_of, Files}
use Rattle.rpm_history.proofs.Vocabulary.{FromOneOf, idle, Importing, is_anew, IsLawfulDatabase, OnlyReadsPackages, Line, LineIs, of_files, Outcome, Paths}
use Rattle.rpm_history.proofs.Vocabulary.{reads_shelf, reopened_files, Replacing, RunCall, RepresentsState, IsLawfulAndSame, State, state, task_course, TaskParts, TellsCalls}
use Rattle.rpm_history.proofs.Vocabulary.{ChangesWith, AnswersCommand, Run, run_of, setting_of, TellsLines, Tree, uses_in, uses_shelf}
use Rattle.rpm_outside.specs.Frame.{images, CrashLeaves}
use Rattle.rpm_commit.proofs.laws.Brokens.{by_bool}
use Rattle.rpm_history.proofs.Histories.{LineDoes, Stood}
use Rattle.std.proofs.lemmas.Bool.{or_right}
use Rattle.rpm_commit.proofs.laws.Standing.{lawful_store}
use Rattle.rpm_outside.specs.declared.disk.Disk as disk
use Rattle.rpm_outside.specs.declared.shelf.Shelf as shelf
use Rattle.rpm_outside.specs.declared.sink.Sink as sink

-- ---- from one of these images

pub from_one : (images : Files → Type 0) (Way : State → State → Type 0) (t : State)
    → (s : State) × FromOneOf images (λ from to. to ≡ from) s × Way s t → FromOneOf images Way t
from_one images Way t (s, (from, was, says), way) =
    (from, was, record { value = says.value; undamaged = says.undamaged; is = subst (λ (u : State). Way u t) says.is way })

-- a lawful image represents its own state
pub from_itself : (images : Files → Type 0) (Way : State → State → Type 0) → ((s : State) → Way s s) → (image : Files) → images image
    → IsLawfulDatabase image → RepresentsState (FromOneOf images Way) image
from_itself images Way still image left lawful =
    let is = lawful_store (reopened_files image).pkg (reopened_files image).idx lawful.lawful in
    record {
      lawful = lawful;
      says = record {
        value = is.0;
        undamaged = is.1;
        is = (image, left, record { value = is.0; undamaged = is.1; is = still (state (reopened_files image).pkg is.0) });
      };
    }

-- ---- the shelf

pub tells_calls : (shelf : Bool) (lines : List Line) (outcomes : List Outcome) → TellsLines shelf lines → TellsCalls shelf (calls_of lines outcomes)
tells_calls shelf lines [] all = tt
tells_calls shelf [] (o ∷ os) all = tt
tells_calls shelf (l ∷ ls) (o ∷ os) all = (all.0, tells_calls shelf ls os all.1)

-- a command that changes packages and reads package files uses it
pub uses_reads : (words : List (List ℕ)) (a : AskParts) (tree : Tree) (task : TaskParts) → asks words ≡ Some (a, tree) → asked_task words a ≡ Some task
    → reads_shelf task ≡ true → uses_shelf words ≡ true
uses_reads words a tree task asked is reads =
    ap (uses_in words) asked ∙ or_right (of_files a) (option_map_or reads_shelf (asked_task words a) false)
    (ap (λ (o : Option TaskParts). option_map_or reads_shelf o false) is ∙ reads)

-- one that reads none goes the same course, whatever there is
pub unread_course : (P : (State → Course) → Type 0) (p q : Paths) (now : ℕ) (t : TaskParts) → reads_shelf t ≡ false → P (task_course p now t)
    → P (task_course q now t)
unread_course P p q now (Adding files) unread x = absurd cc
unread_course P p q now (Replacing n path) unread x = absurd cc
unread_course P p q now Importing unread x = absurd cc
unread_course P p q now others unread x = x

-- a line with its moment, and how it ended
abbrev pub call_of : Line → Outcome → RunCall
call_of line outcome = record { words = line.words.now; moment = line.moment; outcome = outcome }

pub calls_more : (lines : List Line) (outcomes : List Outcome) (outcome : Outcome) (d : Line) → length outcomes < length lines
    → calls_of lines (outcomes ++ outcome ∷ []) ≡ calls_of lines outcomes ++ call_of (get_or lines (length outcomes) d) outcome ∷ []
calls_more [] [] outcome d less = absurd (omega (arith, less))
calls_more [] (o ∷ os) outcome d less = absurd (omega (arith, less))
calls_more (line ∷ lines) [] outcome d less = refl
calls_more (line ∷ lines) (o ∷ os) outcome d less =
    ap (λ (calls : List RunCall). call_of line o ∷ calls) (calls_more lines os outcome d (omega (arith, less)))

by_option : {T X : Type 0} (o : Option T) → (o ≡ None → X) → ((x : T) → o ≡ Some x → X) → X
by_option None nothing some = nothing refl
by_option (Some x) nothing some = some x refl

module _ {D S O E : Type 0} (d : disk.Ghosts D) (told : IsTrue d.tells) (s : shelf.Ghosts S) (o : sink.Ghosts O) (e : sink.Ghosts E) (paths : Paths)
    (call : RunCall) (old new : Between D S O E) (tells : uses_shelf call.words ≡ true → IsTrue s.tells) (line : LineIs d s o e paths call old new) where
  abbrev words : List (List ℕ)
  words = call.words

  -- the run that it was
  abbrev r : Run d
  r = run_of d s o e call old new line.answers.mid

  abbrev past : Files → Type 0
  past = images d old.disk

  abbrev LineDid : (State → Course) → Type 0
  LineDid course = LineDoes r course

  abbrev Changed : TaskParts → (State → Course) → Type 0
  Changed task course = ChangesWith r (is_anew task) (changes_index task) course

  -- by what the command changes, if anything
  abbrev course_if : Option TaskParts → State → Course
  course_if o t = option_map_or (λ task. task_course paths call.moment task t) o idle

  unread : new.disk ≡ old.disk → Stood d (λ t. idle) old.disk new.disk
  unread same = record {
    nothing = λ t. refl;
    pkg = ap (λ (it : D). (reopened_files (d.files it)).pkg) same;
    crashes = λ lawful. subst (λ (it : D). CrashLeaves d old.disk it (IsLawfulAndSame past)) (sym same) (record {
      later = omega arith;
      each = λ image left. record { from = image; was = left; pkg = refl; lawful = lawful image left };
      before = λ t image le left. inl left;
    });
  }

  looked : OnlyReadsPackages d old.disk new.disk → Stood d (λ t. idle) old.disk new.disk
  looked leaves = record {
    nothing = λ t. refl;
    pkg = ap (λ (f : Files). (reopened_files f).pkg) (leaves.untouched told).same;
    crashes = λ lawful. record {
      later = omega (arith, leaves.moment_stays);
      each = λ image left. (let was = (leaves.untouched told).images (d.moment old.disk) image left in
          record { from = image; was = was; pkg = refl; lawful = lawful image was });
      before = λ t image le left. inl ((leaves.untouched told).images t image left);
    };
  }

  -- ---- what the page says of it

  does : (a : AskParts) (tree : Tree) → asks words ≡ Some (a, tree) → AnswersCommand r (setting_of d s o e call old new) a tree
  does a tree asked = line.answers.did.asked a tree asked

  -- the course is the same by what the shelf held at first
  changed : (a : AskParts) (tree : Tree) (task : TaskParts) → asks words ≡ Some (a, tree) → asked_task words a ≡ Some task
      → Changed task (task_course paths call.moment task)
  changed a tree task asked is =
      let reads = λ (yes : reads_shelf task ≡ true). tells (uses_reads words a tree task asked is yes) in
      let did : Changed task (task_course (s.paths old.shelf) call.moment task) = ((does a tree asked).changes task is told reads).changed in
      by_bool {X = Changed task (task_course paths call.moment task)} (reads_shelf task)
      (λ yes. subst (λ (p : Paths). Changed task (task_course p call.moment task)) (line.shelf (reads yes)) did)
      (λ no. unread_course (Changed task) (s.paths old.shelf) paths call.moment task no did)

  asked_does : (a : AskParts) (tree : Tree) → asks words ≡ Some (a, tree) → LineDid (course_if (asked_task words a))
  asked_does a tree asked = by_option (asked_task words a)
      (λ none. subst (λ (o : Option TaskParts). LineDid (course_if o)) (sym none) (inl (by_bool (by_key a)
      (λ keyed. record {
        nothing = λ t. refl;
        pkg = ((does a tree asked).keyed keyed told).packages;
        crashes = ((does a tree asked).keyed keyed told).crashes;
      })
      (λ unkeyed. looked ((does a tree asked).looks unkeyed none)))))
      (λ task is. subst (λ (o : Option TaskParts). LineDid (course_if o)) (sym is)
      (inr (is_anew task, changes_index task, changed a tree task asked is)))

  pub line_does : LineDid (course_of paths call.moment words (asks words))
  line_does = by_option (asks words)
      (λ none. subst (λ (read : Option (AskParts × Tree)). LineDid (course_of paths call.moment words read)) (sym none) (inl (unread (line.unread none).0)))
      (λ both asked. subst (λ (read : Option (AskParts × Tree)). LineDid (course_of paths call.moment words read)) (sym asked)
      (asked_does both.0 both.1 asked))

  -- of a command that changes packages
  pub line_changes : (a : AskParts) (tree : Tree) (task : TaskParts) → asks words ≡ Some (a, tree) → asked_task words a ≡ Some task
      → Changed task (course_of paths call.moment words (asks words))
  line_changes a tree task asked is =
      subst (λ (read : Option (AskParts × Tree)). Changed task (course_of paths call.moment words read)) (sym asked)
      (subst (λ (o : Option TaskParts). Changed task (course_if o)) (sym is) (changed a tree task asked is))
