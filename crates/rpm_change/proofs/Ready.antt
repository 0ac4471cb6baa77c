-- A line on a database that can be changed further, and nothing else.
use Rattle.std.proofs.Common.{List, ℕ, Result, refl, arith}
use Rattle.rpm_outside.specs.declared.disk.Disk as disk
use Rattle.rpm_outside.specs.declared.sink.Sink as sink
use Rattle.rpm_outside.specs.declared.buffered.Buffered.{Buffered}
use Rattle.rpm_db.specs.Changed.{IsReady}
use Rattle.rpm_db.specs.Database.{Database}
use Rattle.rpm_effects.specs.declared.tally.Tally.{Tally}
use Rattle.rpm_effects.specs.declared.tally.Halt.{Halt}
use Rattle.rpm_effects.specs.Lines.{Fails}
use Rattle.rpm_effects.specs.Steps.{Bearer, ToErr, course_of_failure}
use Rattle.rpm_effects.specs.Shown.{EndedOnErr}
use Rattle.rpm_change.specs.Progress.{ProgressInBoth}
use Rattle.rpm_change.proofs.laws.Going.{line_by}
use Rattle.rpm_change.proofs.laws.Leaving.{none_by, unchanged}

module _ {D : Type 0} (d : disk.Ghosts D) (stays : (x : D) → d.follows x x) {T : Type 0} {at : D} {db : Database}
    (ready : IsReady d at db) where
  pub ready_line : {S : Type 0} (e : sink.Ghosts S) {line : List ℕ} {x y : Buffered S} (r : Result Tally Halt)
      (for : Bearer) → Fails e line x y r
      → ProgressInBoth d T at at db db r (EndedOnErr e x y) (course_of_failure (ToErr for line))
  ready_line e r for = line_by d e r for (λ told. refl) refl (λ told. refl) (λ told. refl) (λ told. omega arith)
      (λ other. none_by d stays _ (unchanged d at db ready) at db ready.indexed r other)
