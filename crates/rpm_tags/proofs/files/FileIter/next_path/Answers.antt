use Rattle.std.proofs.Common.{◌∙◌, sym, refl}
use Rattle.rpm_tags.proofs.Paths.{next_index, next_left, next_path_in, next_short, no_paths}
use Rattle.rpm_tags.proofs.files.FileIter.next_path.Goals as goal

pub returns-in-None-clause-steps : goal.returns-in-None-clause-steps
returns-in-None-clause-steps c = (
  sym c.self.view_is ∙ no_paths c.self.inside.dirs _ c.self.inside.bases c.in-None.ensures.steps.0,
  no_paths c.self.inside.dirs _ c.next.new.self c.in-None.ensures.steps.1,
)

pub dir-dir-requires : goal.dir-dir-requires
dir-dir-requires c = next_index c.self.inside.dirs c.self.inside.indexes.now c.self.inside.bases c.self.inside.place _ c.self.invariant c.number-index.ensures

pub invariant_of-self-in-Some : goal.invariant_of-self-in-Some
invariant_of-self-in-Some c =
    rw c.dir-dir.ensures.same (next_left c.self.inside.dirs c.self.inside.indexes.now c.self.inside.bases c.self.inside.place _ _ _ c.self.invariant
    c.in-Some.ensures.steps c.number-index.ensures)

pub returns-in-Some-clause-steps : goal.returns-in-Some-clause-steps
returns-in-Some-clause-steps c =
    sym c.self.view_is ∙ next_path_in c.self.inside.dirs c.self.inside.indexes.now c.self.inside.bases c.self.inside.place _ _ _ _ c.in-Some.ensures.steps
    c.number-index.ensures c.dir-dir.ensures.value ∙ rw c.dir-dir.ensures.same refl

pub returns-in-Some-clause-short : goal.returns-in-Some-clause-short
returns-in-Some-clause-short c = (
  c.dir-dir.ensures.short,
  next_short c.self.inside.dirs c.self.inside.indexes.now c.self.inside.bases c.self.inside.place _ _ c.self.invariant c.in-Some.ensures.steps,
)
