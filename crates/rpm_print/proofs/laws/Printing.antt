-- What the calls that print say.
use Rattle.std.proofs.Common.{◌≡◌, ℕ, ◌≤◌, Bool, true, List, [], Result, Ok, Err, refl, ap, inl, inr, arith, rules}
use Rattle.std.specs.Prelude.{IsTrue}
use Rattle.rpm_effects.specs.Progress.{Outputs, outputs}
use Rattle.rpm_effects.specs.Steps.{Bearer, ToOut}
use Rattle.rpm_effects.specs.declared.tally.Halt.{Halt}
use Rattle.rpm_outside.specs.Buffered.{buffer_sink, Flushes, inner, held_bytes}
use Rattle.rpm_outside.specs.Sinks.{IsPrefix}
use Rattle.rpm_outside.specs.declared.buffered.Buffered.{Buffered}
use Rattle.rpm_outside.proofs.laws.Flushed.{flushed, stopped}
use Rattle.rpm_qfeval.specs.Printed.{Differs, EndsSo, Fails, Prints, Done}
use Rattle.rpm_effects.specs.Answers.{StepIs}
use Rattle.rpm_effects.proofs.laws.Closing.{Closes}
use Rattle.rpm_outside.specs.SinkFrame.{Writes}
use Rattle.rpm_print.specs.Printed.{printed_step}
use Rattle.rpm_effects.specs.declared.tally.Halt.TheVariants as halt
use Rattle.rpm_outside.specs.declared.sink.Sink as sink

module _ {S : Type 0} (s : sink.Ghosts S) where
  -- two counts that are told are those of the meaning, and nothing was written
  pub told_counts : (meaning : Result (List ℕ) (ℕ × ℕ)) (old new : S) (first second : ℕ)
      → EndsSo s meaning old new (Differs first second)
      → (meaning ≡ Err (first, second)) × (new ≡ old)
  told_counts (Ok bytes) old new first second t = absurd t
  told_counts (Err counts) old new first second t = (ap Err t.0, t.1)

  -- a line to err went through, or was cut off where its count of faults rose
  pub closes_of : {T F : Type 0} (before : ℕ) (old new : S) (line : List ℕ) (result : Result T F) (out_tells : Bool)
      (out : List ℕ)
      → before ≤ s.faults old → Writes s old new line result
      → Closes line (outputs out_tells out s.tells (s.taken old)) (outputs out_tells out s.tells (s.taken new)) before
      (s.faults new)
  closes_of before old new line (Ok done) out_tells out later w = (refl, inl w.ok)
  closes_of before old new line (Err fault) out_tells out later w =
      (refl, inr (w.err, omega (arith, later, w.cause.failed)))

pub inner_same : {O : Type 0} {a b : Buffered O} → a ≡ b → inner a ≡ inner b
inner_same {O = O} e = ap (λ (b : Buffered O). inner b) e

-- how a step that prints ends, by the last call that it makes
abbrev printing_ended : {T E : Type 0} → Result T E → Result Bool Halt
printing_ended (Ok t) = Ok true
printing_ended (Err e) = Err halt.OutFault

-- what was printed to a buffer that held nothing, whatever err took
module _ {O : Type 0} (o : sink.Ghosts O) (grows : (a b : O) → o.follows a b → IsTrue o.tells
    → IsPrefix (o.taken a) (o.taken b)) (for : Bearer)
    (err_tells : Bool) (err : List ℕ) where
  abbrev taken_outputs : Buffered O → Outputs
  taken_outputs b = outputs o.tells (o.taken (inner b)) err_tells err

  written : {T E : Type 0} (bytes : List ℕ) (old new : Buffered O) (r : Result T E)
      → Writes o (inner old) (inner new) bytes r
      → StepIs (ToOut for bytes) (printing_ended r) (taken_outputs old) (taken_outputs new)
  written bytes old new (Ok t) w = search rules
  written bytes old new (Err e) w = search rules

  -- where it failed
  pub print_stopped : (meaning : Result (List ℕ) (ℕ × ℕ)) (old new : Buffered O) → held_bytes old ≡ []
      → Prints (buffer_sink o) meaning old new Fails
      → StepIs (printed_step for meaning) (Err halt.OutFault) (taken_outputs old) (taken_outputs new)
  print_stopped (Ok bytes) old new nothing p =
      written {T = Unit {0}} {E = Unit {0}} bytes old new (Err tt)
      (stopped {o = o} grows {T = Unit {0}} {E = Unit {0}} {old = old} {new = new} {e = tt} (Err tt) refl nothing
      (record { ok = tt; err = p.ends.0; cause = record { later = p.later; failed = p.ends.1 }; goes_on = p.goes_on }))
  print_stopped (Err counts) old new nothing p = absurd p.ends

  -- and where it was flushed
  pub print_flushed : {T E : Type 0} (then : (a b c : O) → o.follows a b → o.follows b c → o.follows a c)
      (meaning : Result (List ℕ) (ℕ × ℕ))
      (old mid new : Buffered O) (r : Result T E) → held_bytes old ≡ [] → Prints (buffer_sink o) meaning old mid Done
      → Flushes o mid new r
      → StepIs (printed_step for meaning) (printing_ended r) (taken_outputs old) (taken_outputs new)
  print_flushed then (Ok bytes) old mid new r nothing p f =
      written bytes old new r (flushed {o = o} grows {T = Unit {0}} {E = Unit {0}} {old = old} {mid = mid}
      {t = tt} then new r nothing
      (record { ok = p.ends; err = tt; cause = record { later = p.later; failed = tt }; goes_on = p.goes_on }) f)
  print_flushed then (Err counts) old mid new r nothing p f = absurd p.ends
