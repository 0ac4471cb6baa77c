use Rattle.rpm_blocks.proofs.Fits.{HasPassed}
use Rattle.rpm_blocks.proofs.runs.least_fit.Given as goal

abbrev pub invariant-loop-run : goal.invariant-loop-run
invariant-loop-run l = HasPassed l.runs l.count l.from l.run-index l.block
