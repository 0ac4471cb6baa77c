-- What a call that prints did.
use Rattle.std.specs.Prelude.{◌≡◌, ℕ, ◌≤◌, List, Result, Ok, Err}
use Rattle.rpm_outside.specs.declared.sink.Sink as sink
use Rattle.rpm_outside.specs.Causes.{Rose}
use Rattle.rpm_outside.specs.Sinks.{GainIs, GainedPart}
use Rattle.rpm_qfeval.specs.declared.printing.DirectFault.{DirectFault}
use Rattle.rpm_qfeval.specs.declared.printing.DirectFault.TheVariants as direct
use Rattle.rpm_qfeval.specs.declared.printing.EvalFault.{EvalFault}
use Rattle.rpm_qfeval.specs.declared.printing.EvalFault.TheVariants as eval

-- how a call ended: it went through, told two counts, met a fault of the sink, or found no memory
pub data Ending : Type 0 where
  Done : Ending
  Differs : ℕ → ℕ → Ending
  Fails : Ending
  Starves : Ending

-- how `print_direct` ended, by its answer
abbrev pub ending : {T : Type 0} → Result T DirectFault → Ending
ending (Ok t) = Done
ending (Err (direct.SizesDiffer first second)) = Differs first second
ending (Err direct.OutFault) = Fails

-- how `print` ended, by its answer
abbrev pub eval_ending : {T : Type 0} → Result T EvalFault → Ending
eval_ending (Ok t) = Done
eval_ending (Err (eval.SizesDiffer first second)) = Differs first second
eval_ending (Err eval.OutFault) = Fails
eval_ending (Err eval.NoMemory) = Starves

module _ {O : Type 0} (o : sink.Ghosts O) where
  -- A format that means bytes writes them, or the first of them where the sink's count of faults rose. Any other one
  -- has its counts told, and nothing is written. Nothing else comes.
  abbrev pub EndsSo : Result (List ℕ) (ℕ × ℕ) → O → O → Ending → Type 0
  EndsSo (Ok bytes) old new Done = GainIs o.tells (o.taken old) (o.taken new) bytes
  EndsSo (Ok bytes) old new Fails = GainedPart o.tells (o.taken old) (o.taken new) bytes
      × Rose (o.faults old) (o.faults new)
  EndsSo (Err counts) old new (Differs first second) = (counts ≡ (first, second)) × (new ≡ old)
  EndsSo meaning old new ending = ⊥

  -- what a call that prints did: its ending, faults only more, and the sink goes on from what it was
  pub record Prints (meaning : Result (List ℕ) (ℕ × ℕ)) (old new : O) (ending : Ending) : Type 0 where
    pub ends : EndsSo meaning old new ending
    pub later : o.faults old ≤ o.faults new
    pub goes_on : o.follows old new
