-- A course on a sink: nothing of it, one that was stopped, and one and then another.
use Rattle.std.proofs.Common.{◌≡◌, ℕ, ◌≤◌, Bool, true, List, [], Result, Ok, Err, arith}
use Rattle.rpm_outside.specs.declared.sink.Sink as sink
use Rattle.rpm_outside.specs.declared.buffered.Buffered.{Buffered}
use Rattle.rpm_outside.specs.Buffered.{inner}
use Rattle.rpm_outside.specs.Causes.{HasCauseAt, Rose}
use Rattle.rpm_db.specs.declared.change_fault.ChangeFault.{ChangeFault}
use Rattle.rpm_db.specs.State.{State}
use Rattle.rpm_effects.specs.declared.tally.Tally.{Tally}
use Rattle.rpm_effects.specs.declared.tally.Halt.{Halt}
use Rattle.rpm_effects.specs.Progress.{outputs, ThroughSome, halt_of}
use Rattle.rpm_effects.specs.Hands.{Hand}
use Rattle.rpm_effects.specs.Steps.{Course, idle, joined_courses, apply_all}
use Rattle.rpm_effects.specs.Shown.{EndedOnErr, EndedOnOut, EndedQuietly}
use Rattle.rpm_effects.proofs.laws.Courses.{plus, none_gone, stopped_ended, ended_none, ended_then, ended_ahead}
use Rattle.rpm_effects.proofs.laws.Reaching.{some_all, through_none}

-- something that comes only where a later call has its cause
pub cause_then : {X : Type 0} {x y z : ℕ} → x ≤ y → HasCauseAt X y z → HasCauseAt X x z
cause_then {x = x} {y = y} {z = z} le cause = record {
  later = omega (arith, le, cause.later);
  rose = λ is. (let rose : Rose y z = cause.rose is in omega (arith, le, rose));
}

-- nothing yet
abbrev pub no_tally : Tally
no_tally = record { failed = 0; changes = 0 }

-- ---- on a sink

-- one part and then another, and one that was stopped, whatever was to come after it
pub record PartsJoined (E F G : Course → State → State → Result Tally Halt → Type 0) : Type 0 where
  pub state_is : (a : Course) (s t : State) (one : Tally) → E a s t (Ok one) → t ≡ apply_all a.changes s
  pub next_is : (b : Course) (t u : State) (one : Tally) → F b t u (Ok one) → u ≡ apply_all b.changes t
  pub both : (a b : Course) (s t u : State) (one : Tally) (r : Result Tally Halt) → E a s t (Ok one) → F b t u r
      → G (joined_courses a b) s u (plus one r)
  pub ahead : (a b : Course) (s t : State) (h : Halt) → F a s t (Err h) → F (joined_courses a b) s t (Err h)

module _ {S : Type 0} (of : sink.Ghosts S) where
  abbrev pub took : Buffered S → List ℕ
  took at = of.taken (inner at)

  pub err_joins : (x y z : Buffered S) → PartsJoined (EndedOnErr of x y) (EndedOnErr of y z) (EndedOnErr of x z)
  err_joins x y z = record {
    state_is = λ a s t one ends. (ends true []).state_is;
    next_is = λ b t u one ends. (ends true []).state_is;
    both = λ a b s t u one r first second. λ ot o.
        ended_then ot of.tells o o o (took x) (took y) (took z) a b s t u one (first ot o) r (second ot o);
    ahead = λ a b s t h ends. λ ot o. ended_ahead a b _ _ s t h (ends ot o);
  }

  pub out_joins : (x y z : Buffered S) → PartsJoined (EndedOnOut of x y) (EndedOnOut of y z) (EndedOnOut of x z)
  out_joins x y z = record {
    state_is = λ a s t one ends. (ends true []).state_is;
    next_is = λ b t u one ends. (ends true []).state_is;
    both = λ a b s t u one r first second. λ et e.
        ended_then of.tells et (took x) (took y) (took z) e e e a b s t u one (first et e) r (second et e);
    ahead = λ a b s t h ends. λ et e. ended_ahead a b _ _ s t h (ends et e);
  }

  -- nothing was done of a course
  pub err_gone : (x : Buffered S) (course : Course) (ot : Bool) (o : List ℕ)
      → ThroughSome course.steps (outputs ot o of.tells (took x)) (outputs ot o of.tells (took x))
  err_gone x course ot o = none_gone course _ _ (through_none {ot = ot} {et = of.tells} o (took x))

  pub out_gone : (x : Buffered S) (course : Course) (et : Bool) (e : List ℕ)
      → ThroughSome course.steps (outputs of.tells (took x) et e) (outputs of.tells (took x) et e)
  out_gone x course et e = none_gone course _ _ (through_none {ot = of.tells} {et = et} (took x) e)

  -- and a change was refused
  pub err_refused : (x : Buffered S) (course : Course) (f : ChangeFault) (s t : State)
      → EndedOnErr of x x course s t (Err (halt_of f))
  err_refused x course f s t = λ ot o. stopped_ended course s t f _ _ (err_gone x course ot o)

  pub out_refused : (x : Buffered S) (course : Course) (f : ChangeFault) (s t : State)
      → EndedOnOut of x x course s t (Err (halt_of f))
  out_refused x course f s t = λ et e. stopped_ended course s t f _ _ (out_gone x course et e)

  -- so after a course that was done
  pub err_stopped : (x y : Buffered S) (f : ChangeFault) {course : Course} {tally : Tally} (s t u : State)
      → EndedOnErr of x y course s t (Ok tally)
      → EndedOnErr of x y course s u (Err (halt_of f))
  err_stopped x y f {course = course} s t u ends = λ ot o.
      stopped_ended course s u f _ _ (some_all (ends ot o).steps)

  pub out_stopped : (x y : Buffered S) (f : ChangeFault) {course : Course} {tally : Tally} (s t u : State)
      → EndedOnOut of x y course s t (Ok tally)
      → EndedOnOut of x y course s u (Err (halt_of f))
  out_stopped x y f {course = course} s t u ends = λ et e.
      stopped_ended course s u f _ _ (some_all (ends et e).steps)

  -- what a part before a call kept of it
  pub hand_then : {fails now : Type 0} → ((x y z : S) → of.follows x y → of.follows y z → of.follows x z)
      → (x y z : Buffered S)
      → of.faults (inner x) ≤ of.faults (inner y) → of.follows (inner x) (inner y) → (now → fails) → Hand of fails y z
      → Hand of now x z
  hand_then joins x y z later on same hand = record {
    cause = cause_then later (record { later = hand.cause.later; rose = λ is. hand.cause.rose (same is) });
    goes_on = joins (inner x) (inner y) (inner z) on hand.goes_on;
  }

  pub err_none : (x : Buffered S) (s : State) → EndedOnErr of x x idle s s (Ok no_tally)
  err_none x s = λ ot o. ended_none ot of.tells o (took x) s

  pub out_none : (x : Buffered S) (s : State) → EndedOnOut of x x idle s s (Ok no_tally)
  out_none x s = λ et e. ended_none of.tells et (took x) e s

-- on no sink
pub quiet_joins : PartsJoined EndedQuietly EndedQuietly EndedQuietly
quiet_joins = record {
  state_is = λ a s t one ends. (ends true true [] []).state_is;
  next_is = λ b t u one ends. (ends true true [] []).state_is;
  both = λ a b s t u one r first second. λ ot et o e. ended_then ot et o o o e e e a b s t u one (first ot et o e) r
      (second ot et o e);
  ahead = λ a b s t h ends. λ ot et o e. ended_ahead a b _ _ s t h (ends ot et o e);
}

pub quiet_none : (s : State) → EndedQuietly idle s s (Ok no_tally)
quiet_none s = λ ot et o e. ended_none ot et o e s

pub quiet_stopped : (f : ChangeFault) {course : Course} {tally : Tally} (s t u : State)
    → EndedQuietly course s t (Ok tally)
    → EndedQuietly course s u (Err (halt_of f))
quiet_stopped f {course = course} s t u ends = λ ot et o e.
    stopped_ended course s u f _ _
    (some_all (ends ot et o e).steps)
