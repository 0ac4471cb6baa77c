use Rattle.std.proofs.Common.{◌≡◌, true}
use Rattle.rpm_effects.specs.Steps.{whole_step}
use Rattle.rpm_effects.specs.Progress.{Anywhere}
use Rattle.rpm_effects.proofs.laws.Stopping.{out_cut, within_reads}
use Rattle.rpm_print.proofs.texts.print_text.Goals as goal

-- the text was cut off
pub returns-in-Err-clause-went : goal.returns-in-Err-clause-went
returns-in-Err-clause-went g c = λ et e.
    rw (← c.clear.ensures.inner) (within_reads _ true _ _ (λ f. f ≡ whole_step 0) Anywhere (λ f is. tt) (out_cut _ _ _ _ _ _ _ c.in-Err.ensures.writes.err))
