-- How far a command went, and why it was stopped.
use Rattle.std.specs.Prelude.{◌≡◌, ◌⊎◌, ℕ, ◌<◌, List, [], ◌∷◌, ◌++◌, length, Bool, true, false, Result, Ok, Err}
use Rattle.std.specs.List.{flat_map}
use Rattle.rpm_outside.specs.Sinks.{GainIs}
use Rattle.rpm_db.specs.State.{State}
use Rattle.rpm_db.specs.declared.change_fault.ChangeFault.{ChangeFault}
use Rattle.rpm_db.specs.declared.change_fault.ChangeFault.TheVariants as fault
use Rattle.rpm_effects.specs.declared.tally.Tally.{Tally}
use Rattle.rpm_effects.specs.declared.tally.Halt.{Halt}
use Rattle.rpm_effects.specs.declared.tally.Halt.TheVariants as halt
use Rattle.rpm_effects.specs.declared.answer.Why.{Why}
use Rattle.rpm_effects.specs.declared.answer.Why.TheVariants as why
use Rattle.rpm_effects.specs.Endings.{why_of_halt}
use Rattle.rpm_effects.specs.Steps.{Bearer, Step, Course, out_bytes, err_bytes, bearer_of, is_out, cut_step, apply_all}

-- what out and err took, and whether they tell it
pub record Outputs : Type 0 where
  pub out_tells : Bool
  pub out : List ℕ
  pub err_tells : Bool
  pub err : List ℕ

-- what both sinks took, where they tell it
abbrev pub outputs : Bool → List ℕ → Bool → List ℕ → Outputs
outputs out_tells out err_tells err = record { out_tells = out_tells; out = out; err_tells = err_tells; err = err }

-- out and err gained exactly the bytes of these steps
pub record Through (done : List Step) (old new : Outputs) : Type 0 where
  pub out : GainIs old.out_tells old.out new.out (flat_map out_bytes done)
  pub err : GainIs old.err_tells old.err new.err (flat_map err_bytes done)

-- nothing is said of what was read
abbrev pub Anywhere : Bearer → Type 0
Anywhere for = Unit {0}

-- some of the steps were gone through
pub record ThroughSome (all : List Step) (old new : Outputs) : Type 0 where
  pub done : List Step
  pub rest : List Step
  pub all_is : all ≡ done ++ rest
  pub through : Through done old new

-- some of the steps were gone through, and of the next one the first bytes; of packages after that step's none was read
pub record StopWithin (all : List Step) (to_out : Bool) (old new : Outputs) (reads_to : Bearer → Type 0) : Type 0 where
  pub done : List Step
  pub step : Step
  pub rest : List Step
  pub all_is : all ≡ done ++ step ∷ rest
  pub sink : is_out step ≡ to_out
  pub bytes : ℕ
  pub through : Through (done ++ cut_step bytes step ∷ []) old new
  pub reads : reads_to (bearer_of step)

-- how far these steps were gone through, by the ending: all of them, up to within one where a sink failed, and else
-- some
abbrev pub Progress : List Step → Why → Outputs → Outputs → (Bearer → Type 0) → Type 0
Progress all why.Done old new reads_to = Through all old new
Progress all (why.Failed n) old new reads_to = Through all old new
Progress all why.OutFault old new reads_to = StopWithin all true old new reads_to
Progress all why.ErrFault old new reads_to = StopWithin all false old new reads_to
Progress all others old new reads_to = ThroughSome all old new

-- a claim where the flag is set, and where it isn't, what can't be
abbrev pub Only : Bool → Type 0 → Type 0
Only true Holds = Holds
Only false Holds = ⊥

-- a claim, and where the ending says that all was done, that as many arguments failed as it says
abbrev pub CountsFailed : ℕ → Why → Type 0 → Type 0
CountsFailed failed why.Done Holds = Holds × (failed ≡ 0)
CountsFailed failed (why.Failed n) Holds = Holds × (failed ≡ n) × (0 < n)
CountsFailed failed others Holds = Holds

-- ---- a course, with the state

-- all was done, and the state is the one after the changes
pub record Done (course : Course) (s t : State) (tally : Tally) (old new : Outputs) : Type 0 where
  pub steps : Through course.steps old new
  pub failed : course.failed ≡ tally.failed
  pub changes : length course.changes ≡ tally.changes
  pub state_is : t ≡ apply_all course.changes s

-- how far a call that changes went through a course: to its end, with the state after the changes, or to where it was
-- halted
abbrev pub CourseProgress : Course → State → State → Result Tally Halt → Outputs → Outputs → Type 0
CourseProgress course s t (Ok tally) old new = Done course s t tally old new
CourseProgress course s t (Err halt) old new = Progress course.steps (why_of_halt halt) old new Anywhere

-- ---- faults

-- a line can't be written, or there is no memory for it
abbrev pub IsOfLines : Halt → Type 0
IsOfLines h = (h ≡ halt.ErrFault) ⊎ (h ≡ halt.NoMemory)

-- what a fault of a change makes of a command
abbrev pub halt_of : ChangeFault → Halt
halt_of fault.NumbersSpent = halt.NumbersSpent
halt_of fault.GenerationSpent = halt.GenerationSpent
halt_of fault.StoreFull = halt.StoreFull
halt_of (fault.IndexFull needed) = halt.IndexFull needed
halt_of (fault.BadIndex unit) = halt.BadIndex unit
halt_of fault.DiskFault = halt.DiskFault
halt_of others = halt.NoMemory
