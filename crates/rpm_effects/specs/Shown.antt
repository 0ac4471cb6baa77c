-- What both sinks took before and after a call, and what one took alone, whatever the other one did.
use Rattle.std.specs.Prelude.{ℕ, List, Bool, Result}
use Rattle.rpm_outside.specs.declared.sink.Sink as sink
use Rattle.rpm_outside.specs.declared.buffered.Buffered.{Buffered}
use Rattle.rpm_outside.specs.Buffered.{inner}
use Rattle.rpm_db.specs.State.{State}
use Rattle.rpm_effects.specs.declared.tally.Tally.{Tally}
use Rattle.rpm_effects.specs.declared.tally.Halt.{Halt}
use Rattle.rpm_effects.specs.Progress.{Outputs, outputs, CourseProgress}
use Rattle.rpm_effects.specs.Steps.{Course}

-- what both sinks took
abbrev pub outs : {O E : Type 0} → sink.Ghosts O → sink.Ghosts E → O → E → Outputs
outs o e out err = record { out_tells = o.tells; out = o.taken out; err_tells = e.tells; err = e.taken err }

-- what they took behind their buffers
abbrev pub shown_outputs : {O E : Type 0} → sink.Ghosts O → sink.Ghosts E → Buffered O → Buffered E → Outputs
shown_outputs o e out err = outs o e (inner out) (inner err)

-- what out took before and after a call, whatever err took
abbrev pub OutTakes : {O : Type 0} → sink.Ghosts O → (Outputs → Outputs → Type 0) → Buffered O → Buffered O → Type 0
OutTakes o Is old new = (err_tells : Bool) (err : List ℕ)
    → Is (outputs o.tells (o.taken (inner old)) err_tells err) (outputs o.tells (o.taken (inner new)) err_tells err)

-- what err took before and after a call, whatever out took
abbrev pub ErrTakes : {E : Type 0} → sink.Ghosts E → (Outputs → Outputs → Type 0) → Buffered E → Buffered E → Type 0
ErrTakes e Is old new = (out_tells : Bool) (out : List ℕ)
    → Is (outputs out_tells out e.tells (e.taken (inner old))) (outputs out_tells out e.tells (e.taken (inner new)))

-- ---- a course on one sink, or on none

-- nothing was written: both sinks have what they had
abbrev pub EndedQuietly : Course → State → State → Result Tally Halt → Type 0
EndedQuietly course s t r = (out_tells err_tells : Bool) (out err : List ℕ)
    → CourseProgress course s t r (outputs out_tells out err_tells err) (outputs out_tells out err_tells err)

module _ {S : Type 0} (of : sink.Ghosts S) where
  -- what both took, where err is the sink behind this buffer
  abbrev pub with_err : Bool → List ℕ → Buffered S → Outputs
  with_err tells out err = outputs tells out of.tells (of.taken (inner err))

  -- the outputs are these of err, beside what out has
  abbrev pub with_out : Bool → List ℕ → Buffered S → Outputs
  with_out tells err out = outputs of.tells (of.taken (inner out)) tells err

  -- what was written went to err: out has what it had
  abbrev pub EndedOnErr : Buffered S → Buffered S → Course → State → State → Result Tally Halt
      → Type 0
  EndedOnErr old new course s t r = (tells : Bool) (out : List ℕ)
      → CourseProgress course s t r (with_err tells out old) (with_err tells out new)

  -- a course went to out, and err has what it had
  abbrev pub EndedOnOut : Buffered S → Buffered S → Course → State → State → Result Tally Halt
      → Type 0
  EndedOnOut old new course s t r = (tells : Bool) (err : List ℕ)
      → CourseProgress course s t r (with_out tells err old) (with_out tells err new)
