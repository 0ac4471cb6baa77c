-- The halt that an ending of a command tells, and what the command keeps of a shelf and of the sinks.
use Rattle.rpm_commit.proofs.Vocabulary.{Buffered, Change, EmptyBy, ended_as, exercise_ended, ExerciseFault, Files, limit_of_command, Halt, Halted, Hand, HasCauseAt}
use Rattle.rpm_commit.proofs.Vocabulary.{inner, is_halt, is_not_empty, IsOfOpening, never_bad_made, NotEmpty, OnceBegun, Rose, State, MeetsLimit, Store, Streams, Tally}
use Rattle.rpm_commit.proofs.Vocabulary.{Why, why_of, why_of_halt}
use Rattle.std.proofs.Common.{◌≡◌, ℕ, ◌≤◌, Bool, true, false, List, Option, Some, None, Result, Ok, Err, refl, sym, ap, ◌∙◌, subst, arith}
use Rattle.std.specs.Prelude.{IsTrue, IfErr}
use Rattle.rpm_outside.specs.declared.shelf.Shelf as shelf
use Rattle.rpm_outside.specs.declared.sink.Sink as sink
use Rattle.rpm_effects.specs.declared.tally.Halt.TheVariants as halt
use Rattle.rpm_effects.specs.declared.answer.Why.TheVariants as why
use Rattle.rpm_commit.proofs.laws.Emptied.{done_unheld}

-- ---- the halt that an ending tells

abbrev halt_of_why : Why → Option Halt
halt_of_why why.NumbersSpent = Some halt.NumbersSpent
halt_of_why why.GenerationSpent = Some halt.GenerationSpent
halt_of_why why.StoreFull = Some halt.StoreFull
halt_of_why (why.IndexFull needed) = Some (halt.IndexFull needed)
halt_of_why (why.BadIndex unit) = Some (halt.BadIndex unit)
halt_of_why why.DiskFault = Some halt.DiskFault
halt_of_why why.ShelfFault = Some halt.ShelfFault
halt_of_why why.OutFault = Some halt.OutFault
halt_of_why why.ErrFault = Some halt.ErrFault
halt_of_why why.NoMemory = Some halt.NoMemory
halt_of_why others = None

-- it comes before a commit, isn't that packages were found, and tells one halt
pub record Halts (h : Halt) : Type 0 where
  pub halted : is_halt (why_of_halt h) ≡ true
  pub unheld : is_not_empty (why_of_halt h) ≡ false
  pub one : halt_of_why (why_of_halt h) ≡ Some h

pub halts : (h : Halt) → Halts h
halts halt.NumbersSpent = record { halted = refl; unheld = refl; one = refl }
halts others = record { halted = refl; unheld = refl; one = refl }

pub same_halt : (g h : Halt) → why_of_halt g ≡ why_of_halt h → g ≡ h
same_halt g h same =
    let both : Some g ≡ Some h = sym (halts g).one ∙ ap halt_of_why same ∙ (halts h).one in
    cc

pub ended_back : (r : Result Tally Halt) (h : Halt) → ended_as r ≡ Err (why_of_halt h) → r ≡ Err h
ended_back (Ok tally) h is = absurd cc
ended_back (Err g) h is =
    let same : why_of_halt g ≡ why_of_halt h = cc in
    ap Err (same_halt g h same)

pub exercise_back : (r : Result Tally ExerciseFault) (h : Halt) → exercise_ended r ≡ Err (why_of_halt h) → r ≡ Err (Halted h)
exercise_back (Ok tally) h is = absurd cc
exercise_back (Err (NotEmpty n)) h is =
    let same : why.NotEmpty n ≡ why_of_halt h = cc in
    let wrong : None ≡ Some h = ap halt_of_why same ∙ (halts h).one in
    absurd cc
exercise_back (Err (Halted g)) h is =
    let same : why_of_halt g ≡ why_of_halt h = cc in
    ap (λ (x : Halt). Err (Halted x)) (same_halt g h same)

-- nor is it that packages were found
pub course_empty : (files : Files) (r : Result Tally Halt) → EmptyBy false files (why_of (ended_as r))
course_empty files (Ok tally) = done_unheld tally.failed
course_empty files (Err h) = (halts h).unheld

-- an index that is rebuilt is never bad
pub made_unbroken : (s : State) (v : Store) (changes : List Change) (h : Halt) (unit : ℕ) → MeetsLimit true (limit_of_command true s v changes) (Err h)
    → why_of_halt h ≡ why.BadIndex unit → ⊥
made_unbroken s v changes (halt.BadIndex u) unit stops is = never_bad_made true changes s v u (stops refl)
made_unbroken s v changes others unit stops is = cc

-- it is none of a kind of which its halts are
pub never_of : (Of : Halt → Type 0) (r : Result Tally Halt) (h : Halt) → IfErr r Of → (Of h → ⊥) → r ≡ Err h → ⊥
never_of Of r h kinds never is = never (subst (λ (x : Result Tally Halt). IfErr x Of) is kinds)

pub never_of_exercise : (Of : Halt → Type 0) (r : Result Tally ExerciseFault) (h : Halt) → OnceBegun (λ x. IfErr x Of) r → (Of h → ⊥) → r ≡ Err (Halted h) → ⊥
never_of_exercise Of r h kinds never is = never (subst (λ (x : Result Tally ExerciseFault). OnceBegun (λ y. IfErr y Of) x) is kinds)

-- ---- the shelf and the sinks

-- nothing was asked of it
pub never_cause : {What : Type 0} (n : ℕ) → (What → ⊥) → HasCauseAt What n n
never_cause n never = record { later = omega arith; rose = λ is. absurd (never is) }

pub later_cause : {What : Type 0} (a b c : ℕ) → a ≤ b → HasCauseAt What b c → HasCauseAt What a c
later_cause a b c le cause = record { later = omega (arith, le, cause.later); rose = λ is. rose (cause.rose is) }
  where
    rose : Rose b c → Rose a c
    rose higher = omega (arith, le, higher)

pub idle_hand : {O : Type 0} (o : sink.Ghosts O) {What : Type 0} (x : Buffered O) → o.follows (inner x) (inner x) → (What → ⊥) → Hand o What x x
idle_hand o x stays never = record { cause = never_cause (o.faults (inner x)) never; goes_on = stays }

-- what a course keeps of them that ended so, where its ending tells of a halt only where this holds
module _ {S O E : Type 0} (s : shelf.Ghosts S) (o : sink.Ghosts O) (e : sink.Ghosts E) (ended : Result Tally Why) (Stops : Halt → Type 0)
    (back : (h : Halt) → ended ≡ Err (why_of_halt h) → Stops h) where
  told : (h : Halt) (a b : ℕ) → HasCauseAt (Stops h) a b → HasCauseAt (ended ≡ Err (why_of_halt h)) a b
  told h a b cause = record { later = cause.later; rose = λ is. cause.rose (back h is) }

  told_hand : {X : Type 0} (of : sink.Ghosts X) (h : Halt) (x y : Buffered X) → Hand of (Stops h) x y → Hand of (ended ≡ Err (why_of_halt h)) x y
  told_hand of h x y hand = record { cause = told h (of.faults (inner x)) (of.faults (inner y)) hand.cause; goes_on = hand.goes_on }

  pub streams_by : (reads : Bool) (a b : S) (x y : Buffered O) (v w : Buffered E) → (reads ≡ false → b ≡ a) → (IsTrue s.tells → s.paths b ≡ s.paths a)
      → HasCauseAt (Stops halt.ShelfFault) (s.faults a) (s.faults b) → Hand o (Stops halt.OutFault) x y → Hand e (Stops halt.ErrFault) v w
      → Streams s o e reads (λ why. ended ≡ Err why) (a, x, v) (b, y, w)
  streams_by reads a b x y v w unread paths shelf out err = record {
    unread = unread;
    paths = paths;
    shelf = told halt.ShelfFault (s.faults a) (s.faults b) shelf;
    hands = record { out = told_hand o halt.OutFault x y out; err = told_hand e halt.ErrFault v w err };
  }

-- ---- not opened

pub opening_kinds : (w : Why) → IsOfOpening w → (is_halt w ≡ true) × (is_not_empty w ≡ false)
opening_kinds (why.Damaged d) is = (refl, refl)
opening_kinds (why.IndexFull u) is = (refl, refl)
opening_kinds why.DiskFault is = (refl, refl)
opening_kinds why.NoMemory is = (refl, refl)
opening_kinds others is = absurd cc

-- so neither a stream nor packages that were found stop it
abbrev refused : Why → Result Tally Why
refused w = Err w

opening_never : (w other : Why) → IsOfOpening w → (IsOfOpening other → ⊥) → refused w ≡ refused other → ⊥
opening_never w other kind never is =
    let same : w ≡ other = cc in
    never (subst IsOfOpening same kind)

pub unopened_streams : {S O E : Type 0} (s : shelf.Ghosts S) (o : sink.Ghosts O) (e : sink.Ghosts E) (reads : Bool) (w : Why) (a : S) (out : Buffered O)
    (err : Buffered E) → IsOfOpening w → o.follows (inner out) (inner out) → e.follows (inner err) (inner err)
    → Streams s o e reads (λ why. refused w ≡ refused why) (a, out, err) (a, out, err)
unopened_streams s o e reads w a out err kind out_stays err_stays =
    streams_by s o e (refused w) (λ h. refused w ≡ refused (why_of_halt h)) (λ h is. is) reads a a out out err err (λ is. refl) (λ told. refl)
    (never_cause (s.faults a) (opening_never w why.ShelfFault kind (λ x. cc)))
    (idle_hand o out out_stays (opening_never w why.OutFault kind (λ x. cc))) (idle_hand e err err_stays (opening_never w why.ErrFault kind (λ x. cc)))
