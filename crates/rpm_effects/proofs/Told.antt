-- A line that is written for an argument.
use Rattle.std.proofs.Common.{ℕ, Bool, List, [], ◌++◌, Err, take, refl, sym, ap, ◌∙◌}
use Rattle.std.proofs.lemmas.List.{append-nil}
use Rattle.rpm_effects.proofs.Vocabulary.{Bearer, Done, CourseProgress, course_of_failure, GainIs, gained_none, GainedPart, outputs, State, ToErr}
use Rattle.rpm_effects.specs.declared.tally.Halt.TheVariants as halt

pub line_done : (ot et : Bool) (o e e' line : List ℕ) (for : Bearer) (s : State) → GainIs et e e' line
    → Done (course_of_failure (ToErr for line)) s s (record { failed = 1; changes = 0 }) (outputs ot o et e) (outputs ot o et e')
line_done ot et o e e' line for s g = record {
  steps = record { out = gained_none ot o; err = λ told. g told ∙ ap (λ (b : List ℕ). e ++ b) (sym (append-nil line)) };
  failed = refl;
  changes = refl;
  state_is = refl;
}

pub line_cut : (ot et : Bool) (o e e' line : List ℕ) (for : Bearer) (s : State) → GainedPart et e e' line
    → CourseProgress (course_of_failure (ToErr for line)) s s (Err halt.ErrFault) (outputs ot o et e) (outputs ot o et e')
line_cut ot et o e e' line for s p = record {
  done = [];
  step = ToErr for line;
  rest = [];
  all_is = refl;
  sink = refl;
  bytes = p.0;
  through = record { out = gained_none ot o; err = λ told. p.2 told ∙ ap (λ (b : List ℕ). e ++ b) (sym (append-nil (take p.0 line))) };
  reads = tt;
}
