-- How a text that the program says of itself is printed. On it rests `text` of the page (`rpm_tool`, Theorem.antt).
use Rattle.std.specs.Prelude.{ℕ, List, [], ◌∷◌}
use Rattle.rpm_effects.specs.Steps.{whole_step, ToOut}
use Rattle.rpm_effects.specs.Steps.{Course}

-- a text goes to standard output in one step, and nothing fails
abbrev pub text_course : List ℕ → Course
text_course text = record { steps = ToOut (whole_step 0) text ∷ []; failed = 0; changes = [] }
