-- Courses one after the other, and how far they went.
use Rattle.std.proofs.Common.{◌≡◌, ◌≢◌, ℕ, ◌+◌, Bool, true, false, List, [], ◌∷◌, ◌++◌, Result, Ok, Err, refl, sym, ap}
use Rattle.std.proofs.Common.{◌∙◌, subst, append_assoc}
use Rattle.std.proofs.Common.{length-append, arith}
use Rattle.std.proofs.lemmas.List.{append-nil}
use Rattle.rpm_db.specs.declared.change_fault.ChangeFault.{ChangeFault}
use Rattle.rpm_db.specs.declared.change_fault.ChangeFault.TheVariants as fault
use Rattle.rpm_db.specs.Changes.{Change, apply}
use Rattle.rpm_db.specs.State.{State}
use Rattle.rpm_effects.specs.declared.tally.Tally.{Tally}
use Rattle.rpm_effects.specs.declared.tally.Halt.{Halt}
use Rattle.rpm_effects.specs.declared.tally.Halt.TheVariants as halt
use Rattle.rpm_effects.specs.Steps.{Step, Course, cut_step, idle, joined_courses, apply_all}
use Rattle.rpm_effects.proofs.laws.Reaching.{through_more, through_none}
use Rattle.rpm_effects.specs.Progress.{Anywhere, Outputs, outputs, Through, ThroughSome, StopWithin, Done}
use Rattle.rpm_effects.specs.Progress.{CourseProgress, halt_of}
use Rattle.rpm_effects.specs.Shown.{EndedQuietly}

pub apply_all-append : (xs ys : List Change) (s : State) → apply_all (xs ++ ys) s ≡ apply_all ys (apply_all xs s)
apply_all-append [] ys s = refl
apply_all-append (x ∷ xs) ys s = apply_all-append xs ys (apply x s)

-- ---- courses

pub joined_idle : (c : Course) → joined_courses c idle ≡ c
joined_idle c = rw (append-nil c.steps, append-nil c.changes)
    (ap (λ (n : ℕ). record { steps = c.steps; failed = n; changes = c.changes }) (omega arith))

pub idle_joined : (c : Course) → joined_courses idle c ≡ c
idle_joined c = ap (λ (n : ℕ). record { steps = c.steps; failed = n; changes = c.changes }) (omega arith)

pub joined_assoc : (a b c : Course) → joined_courses (joined_courses a b) c ≡ joined_courses a (joined_courses b c)
joined_assoc a b c =
    rw (append_assoc a.steps b.steps c.steps, append_assoc a.changes b.changes c.changes)
    (ap (λ (n : ℕ). record { steps = a.steps ++ (b.steps ++ c.steps); failed = n; changes = a.changes ++ (b.changes ++ c.changes) }) (omega arith))

-- what one course and then another came to
abbrev pub plus : Tally → Result Tally Halt → Result Tally Halt
plus one (Ok more) = Ok (record { failed = one.failed + more.failed; changes = one.changes + more.changes })
plus one (Err h) = Err h

-- ---- how far they went

-- a stop is one after some steps, or within one of them
pub stop_by : (h : Halt) (c d : Course) (s t s' t' : State) (old new old' new' : Outputs)
    → (ThroughSome c.steps old new → ThroughSome d.steps old' new')
    → ((at : Bool) → StopWithin c.steps at old new Anywhere → StopWithin d.steps at old' new' Anywhere)
    → CourseProgress c s t (Err h) old new → CourseProgress d s' t' (Err h) old' new'
stop_by halt.OutFault c d s t s' t' old new old' new' some within p = within true p
stop_by halt.ErrFault c d s t s' t' old new old' new' some within p = within false p
stop_by others c d s t s' t' old new old' new' some within p = some p

-- whatever was to come after it
module _ (a b : Course) (old new : Outputs) where
  some_ahead : ThroughSome a.steps old new → ThroughSome (joined_courses a b).steps old new
  some_ahead p = record {
    done = p.done;
    rest = p.rest ++ b.steps;
    all_is = ap (λ (l : List Step). l ++ b.steps) p.all_is ∙ append_assoc p.done p.rest b.steps;
    through = p.through;
  }

  within_ahead : (at : Bool) → StopWithin a.steps at old new Anywhere
      → StopWithin (joined_courses a b).steps at old new Anywhere
  within_ahead at p = record {
    done = p.done;
    step = p.step;
    rest = p.rest ++ b.steps;
    all_is = ap (λ (l : List Step). l ++ b.steps) p.all_is ∙ append_assoc p.done (p.step ∷ p.rest) b.steps;
    sink = p.sink;
    bytes = p.bytes;
    through = p.through;
    reads = tt;
  }

  pub ended_ahead : (s t : State) (h : Halt) → CourseProgress a s t (Err h) old new
      → CourseProgress (joined_courses a b) s t (Err h) old new
  ended_ahead s t h = stop_by h a (joined_courses a b) s t s t old new old new some_ahead within_ahead

pub ended_none : (ot et : Bool) (o e : List ℕ) (s : State)
    → Done idle s s (record { failed = 0; changes = 0 }) (outputs ot o et e) (outputs ot o et e)
ended_none ot et o e s =
    record { steps = through_none {ot = ot} {et = et} o e; failed = refl; changes = refl; state_is = refl }

-- nothing was done of it
pub none_gone : (course : Course) (old new : Outputs) → Through [] old new → ThroughSome course.steps old new
none_gone course old new none = record { done = []; rest = course.steps; all_is = refl; through = none }

-- a fault of a change leaves some of the steps done
pub stopped_ended : (course : Course) (s t : State) (f : ChangeFault) (old new : Outputs)
    → ThroughSome course.steps old new
    → CourseProgress course s t (Err (halt_of f)) old new
stopped_ended course s t fault.DiskFault old new some = some
stopped_ended course s t others old new some = some

-- so does a stop that is of no sink
pub stopped_by : (course : Course) (s t : State) (h : Halt) (old new : Outputs) → h ≢ halt.OutFault → h ≢ halt.ErrFault
    → ThroughSome course.steps old new
    → CourseProgress course s t (Err h) old new
stopped_by course s t halt.OutFault old new out err some = absurd (out refl)
stopped_by course s t halt.ErrFault old new out err some = absurd (err refl)
stopped_by course s t others old new out err some = some

pub refused_quietly : (course : Course) (f : ChangeFault) (s t : State) → EndedQuietly course s t (Err (halt_of f))
refused_quietly course f s t =
    λ ot et o e. stopped_ended course s t f _ _ (none_gone course _ _ (through_none {ot = ot} {et = et} o e))

-- one course was done, and then another was gone through
module _ (ot et : Bool) (o o' o'' e e' e'' : List ℕ) where
  further : (done more : List Step) → Through done (outputs ot o et e) (outputs ot o' et e')
      → Through more (outputs ot o' et e') (outputs ot o'' et e'')
      → Through (done ++ more) (outputs ot o et e) (outputs ot o'' et e'')
  further done more = through_more {ot = ot} {et = et} done more o o' o'' e e' e''

  module _ (a b : Course) (s t u : State) (one : Tally)
      (first : Done a s t one (outputs ot o et e) (outputs ot o' et e')) where
    some_more : ThroughSome b.steps (outputs ot o' et e') (outputs ot o'' et e'')
        → ThroughSome (joined_courses a b).steps (outputs ot o et e) (outputs ot o'' et e'')
    some_more p = record {
      done = a.steps ++ p.done;
      rest = p.rest;
      all_is = ap (λ (l : List Step). a.steps ++ l) p.all_is ∙ sym (append_assoc a.steps p.done p.rest);
      through = further a.steps p.done first.steps p.through;
    }

    within_more : (at : Bool) → StopWithin b.steps at (outputs ot o' et e') (outputs ot o'' et e'') Anywhere
        → StopWithin (joined_courses a b).steps at (outputs ot o et e) (outputs ot o'' et e'') Anywhere
    within_more at p = record {
      done = a.steps ++ p.done;
      step = p.step;
      rest = p.rest;
      all_is = ap (λ (l : List Step). a.steps ++ l) p.all_is ∙ sym (append_assoc a.steps p.done (p.step ∷ p.rest));
      sink = p.sink;
      bytes = p.bytes;
      through = subst (λ (l : List Step). Through l (outputs ot o et e) (outputs ot o'' et e''))
          (sym (append_assoc a.steps p.done (cut_step p.bytes p.step ∷ [])))
          (further a.steps (p.done ++ cut_step p.bytes p.step ∷ []) first.steps p.through);
      reads = tt;
    }

    pub ended_then : (r : Result Tally Halt) → CourseProgress b t u r (outputs ot o' et e') (outputs ot o'' et e'')
        → CourseProgress (joined_courses a b) s u (plus one r) (outputs ot o et e) (outputs ot o'' et e'')
    ended_then (Ok more) d = record {
      steps = further a.steps b.steps first.steps d.steps;
      failed = omega (arith, first.failed, d.failed);
      changes = length-append a.changes b.changes ∙ omega (arith, first.changes, d.changes);
      state_is = d.state_is ∙ ap (apply_all b.changes) first.state_is ∙ sym (apply_all-append a.changes b.changes s);
    }
    ended_then (Err h) p =
        stop_by h b (joined_courses a b) t u s u (outputs ot o' et e') (outputs ot o'' et e'') (outputs ot o et e)
        (outputs ot o'' et e'') some_more within_more p
