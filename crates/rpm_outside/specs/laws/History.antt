-- Facts about a record of writes and syncs.
use Rattle.std.proofs.Common.{◌≡◌, inl, inr, ℕ, ◌+◌, ◌≤◌, List, [], ◌∷◌, ◌++◌, take, length, refl, sym, ◌∙◌, ap, subst}
use Rattle.std.proofs.Common.{arith}
use Rattle.std.proofs.lemmas.List.{take_all, take-append-le, length_push}
use Rattle.std.proofs.lemmas.Bool.{cases_lt}
use Rattle.rpm_outside.specs.declared.disk.File.{File}
use Rattle.rpm_outside.specs.declared.steps.Step.{Step}
use Rattle.rpm_outside.specs.declared.steps.Step.TheVariants.{Wrote, Synced}
use Rattle.rpm_outside.specs.Files.{Units, Files, file_of, with_file, with_units}
use Rattle.rpm_outside.specs.Crash.{Torn, TornFile, Elapses, OnlyAfter}
use Rattle.rpm_outside.specs.laws.Puts.{length-put}
use Rattle.rpm_outside.specs.Past.{after_step, after_steps, LeftByStep, LeftBySteps, Images, ImagesSince}
use Rattle.rpm_outside.specs.laws.FileLaws.{file_of-with, with_itself}

-- a write that was done whole, and one that was not begun
pub torn_whole : (at : ℕ) (units file : Units) → Torn at units file (with_units at units file)
torn_whole at units file =
    record { each = λ i. inr refl; no_shorter = omega (arith, length-put at units file); no_longer = omega arith }

pub torn_none : (at : ℕ) (units file : Units) → Torn at units file file
torn_none at units file =
    record { each = λ i. inl refl; no_shorter = omega arith; no_longer = omega (arith, length-put at units file) }

pub torn_file_whole : (file : File) (at : ℕ) (units : Units) (files : Files) → TornFile file at units files
    (with_file file (with_units at units (file_of file files)) files)
torn_file_whole file at units files =
    let written = with_units at units (file_of file files) in
    let is = file_of-with file written files in
    record {
      torn =
          subst (λ (u : Units). Torn at units (file_of file files) u) (sym is)
          (torn_whole at units (file_of file files));
      others = ap (λ (u : Units). with_file file u files) (sym is);
    }

pub torn_file_none : (file : File) (at : ℕ) (units : Units) (files : Files) → TornFile file at units files files
torn_file_none file at units files =
    record { torn = torn_none at units (file_of file files); others = with_itself file files }

pub after_steps-push : (steps : List Step) (step : Step) (files : Files)
    → after_steps (steps ++ step ∷ []) files ≡ after_step step (after_steps steps files)
after_steps-push [] step files = refl
after_steps-push (s ∷ steps) step files = after_steps-push steps step (after_step s files)

pub left_push : (steps : List Step) (step : Step) (files : Files) (images : Files → Type 0) (image : Files)
    → LeftBySteps (steps ++ step ∷ []) files
    images image → LeftByStep step (after_steps steps files) (LeftBySteps steps files images) image
left_push [] step files images image left = left
left_push (s ∷ steps) step files images image left =
    left_push steps step (after_step s files) (LeftByStep s files images) image left

pub push_left : (steps : List Step) (step : Step) (files : Files) (images : Files → Type 0) (image : Files)
    → LeftByStep step
    (after_steps steps files) (LeftBySteps steps files images) image
    → LeftBySteps (steps ++ step ∷ []) files images image
push_left [] step files images image left = left
push_left (s ∷ steps) step files images image left =
    push_left steps step (after_step s files) (LeftByStep s files images) image left

-- the files as they read are among the images
step_as_read : (step : Step) (files : Files) (images : Files → Type 0) → images files
    → LeftByStep step files images (after_step step files)
step_as_read (Wrote file at units) files images here = (files, here, torn_file_whole file at units.items files)
step_as_read (Synced file) files images here = (here, refl)

steps_as_read : (steps : List Step) (files : Files) (images : Files → Type 0) → images files
    → LeftBySteps steps files images (after_steps steps files)
steps_as_read [] files images here = here
steps_as_read (step ∷ steps) files images here =
    steps_as_read steps (after_step step files) (LeftByStep step files images)
    (step_as_read step files images here)

pub as_read_now : (steps : List Step) (first files : Files) → files ≡ after_steps steps first
    → ImagesSince steps first (length steps) files
as_read_now steps first files is =
    let whole : take (length steps) steps ≡ steps = take_all (length steps) steps (omega arith) in
    let here = steps_as_read steps first (λ image. image ≡ first) refl in (
      length steps,
      omega arith,
      omega arith,
      subst (λ (s : List Step). Images s first files) (sym whole)
          (subst (λ (f : Files). Images steps first f) (sym is) here),
    )

pub since_earlier : (steps : List Step) (first : Files) (s t : ℕ) (image : Files) → s ≤ t
    → ImagesSince steps first t image → ImagesSince steps first s image
since_earlier steps first s t image le since = (since.0, omega (arith, since.1), since.2, since.3)

-- at the present moment there are the images of all steps
pub now_images : (steps : List Step) (first image : Files) → ImagesSince steps first (length steps) image
    → Images steps first image
now_images steps first image since =
    subst (λ (s : List Step). Images s first image) (take_all since.0 steps since.1) since.3

pub images_now : (steps : List Step) (first image : Files) → Images steps first image
    → ImagesSince steps first (length steps) image
images_now steps first image here = (
  length steps,
  omega arith,
  omega arith,
  subst (λ (s : List Step). Images s first image)
      (sym (take_all (length steps) steps (omega arith))) here,
)

-- one step more
pub elapses_push : (steps later : List Step) (step : Step) (first : Files) → later ≡ steps ++ step ∷ []
    → Elapses (length steps) (length later)
    (ImagesSince steps first) (ImagesSince later first)
elapses_push steps later step first is =
    let longer : length later ≡ length steps + 1 = ap length is ∙ length_push steps step in
    record {
      later = omega arith;
      nothing_else = λ t image le since. elim (cases_lt since.0 (length later)) [
        | inl before ↦
            let same : take since.0 later ≡ take since.0 steps = ap (λ (s : List Step). take since.0 s) is
            ∙ take-append-le since.0 steps (step ∷ [])
            (omega arith) in
            inl (since.0, since.1, omega arith, subst (λ (s : List Step). Images s first image) same since.3)
        | inr last ↦ inr (since.0, last, since.2, since.3)
      ];
    }

pub elapses_same : (steps : List Step) (first : Files)
    → Elapses (length steps) (length steps) (ImagesSince steps first) (ImagesSince steps first)
elapses_same steps first = record { later = omega arith; nothing_else = λ t image le since. inl since }

-- what a write leaves follows from what was left before it
pub follows_write : (steps later : List Step) (file : File) (at : ℕ) (units : _) (first : Files)
    → later ≡ steps ++ Wrote file at units ∷ []
    → OnlyAfter (TornFile file at units.items) (ImagesSince steps first (length steps))
    (ImagesSince later first (length later))
follows_write steps later file at units first is image since =
    let here = now_images later first image since in
    let step = left_push steps (Wrote file at units) first (λ f. f ≡ first) image
    (subst (λ (s : List Step). Images s first image) is here) in
    (step.0, images_now steps first step.0 step.1, step.2)

pub follows_none : (steps : List Step) (file : File) (at : ℕ) (units : Units) (first : Files)
    → OnlyAfter (TornFile file at units)
    (ImagesSince steps first (length steps)) (ImagesSince steps first (length steps))
follows_none steps file at units first image since = (image, since, torn_file_none file at units image)

-- and what a sync leaves
pub sync_step : (steps later : List Step) (file : File) (first image : Files) → later ≡ steps ++ Synced file ∷ []
    → ImagesSince later first (length later) image
    → ImagesSince steps first (length steps) image × (file_of file image ≡ file_of file (after_steps steps first))
sync_step steps later file first image is since =
    let here = now_images later first image since in
    let step = left_push steps (Synced file) first (λ f. f ≡ first) image
    (subst (λ (s : List Step). Images s first image) is here) in
    (images_now steps first image step.0, step.1)
