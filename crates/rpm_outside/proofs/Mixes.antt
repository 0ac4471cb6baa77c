-- An image stays one if one of its files is replaced by what is read.
use Rattle.std.proofs.Common.{◌≡◌, ⊎_elim, List, [], ◌∷◌, ◌++◌, refl, sym, ◌∙◌, ap, subst}
use Rattle.rpm_outside.proofs.Vocabulary.{after_step, after_steps, cases_file, File, file_of, file_of-with, Files, Idx, Images, LeftByStep, LeftBySteps, Log}
use Rattle.rpm_outside.proofs.Vocabulary.{other_file, Pkg, push_left, with_units, Step, StepsTo, Synced, Torn, torn_whole, TornFile, Units, with_file, with_itself}
use Rattle.rpm_outside.proofs.Vocabulary.{Wrote}

with_file-with : (file : File) (a b : Units) (files : Files) → with_file file a (with_file file b files) ≡ with_file file a files
with_file-with Pkg a b files = refl
with_file-with Idx a b files = refl
with_file-with Log a b files = refl

with_file_comm : (f g : File) (a b : Units) (files : Files) → (f ≡ g → ⊥) → with_file f a (with_file g b files) ≡ with_file g b (with_file f a files)
with_file_comm Pkg Pkg a b files differ = absurd (differ refl)
with_file_comm Pkg Idx a b files differ = refl
with_file_comm Pkg Log a b files differ = refl
with_file_comm Idx Pkg a b files differ = refl
with_file_comm Idx Idx a b files differ = absurd (differ refl)
with_file_comm Idx Log a b files differ = refl
with_file_comm Log Pkg a b files differ = refl
with_file_comm Log Idx a b files differ = refl
with_file_comm Log Log a b files differ = absurd (differ refl)

abbrev Mixes : Files → (Files → Type 0) → Type 0
Mixes files images = (g : File) (image : Files) → images image → images (with_file g (file_of g files) image)

mixes_step : (step : Step) (files : Files) (images : Files → Type 0) → Mixes files images → Mixes (after_step step files) (LeftByStep step files images)
mixes_step (Wrote h at units) files images mixes g image (from, here, torn) = ⊎_elim same_file another_file (cases_file g h)
  where
    written : Units
    written = with_units at units.items (file_of h files)

    after : Files
    after = with_file h written files

    same_file : g ≡ h → LeftByStep (Wrote h at units) files images (with_file g (file_of g after) image)
    same_file is =
        let x = with_file h (file_of h files) from in
        let target = with_file h written image in
        let x_is : file_of h x ≡ file_of h files = file_of-with h (file_of h files) from in
        let target_is : file_of h target ≡ written = file_of-with h written image in
        let one : TornFile h at units.items x target = record {
          torn = subst (λ (o : Units). Torn at units.items o (file_of h target)) (sym x_is)
              (subst (λ (n : Units). Torn at units.items (file_of h files) n) (sym target_is) (torn_whole at units.items (file_of h files)));
          others = ap (λ (f : Files). with_file h written f) torn.others
              ∙ with_file-with h written (file_of h image) from
              ∙ sym (with_file-with h written (file_of h files) from)
              ∙ ap (λ (u : Units). with_file h u x) (sym target_is);
        } in
        let at_h : LeftByStep (Wrote h at units) files images (with_file h (file_of h after) image) =
        (x, mixes h from here, subst (λ (u : Units). TornFile h at units.items x (with_file h u image)) (sym (file_of-with h written files)) one) in
        subst (λ (f : File). LeftByStep (Wrote h at units) files images (with_file f (file_of f after) image)) (sym is) at_h

    another_file : (g ≡ h → ⊥) → LeftByStep (Wrote h at units) files images (with_file g (file_of g after) image)
    another_file differ =
        let new = file_of g files in
        let x = with_file g new from in
        let target = with_file g new image in
        let apart : h ≡ g → ⊥ = λ e. differ (sym e) in
        let x_is : file_of h x ≡ file_of h from = other_file h g new from apart in
        let target_is : file_of h target ≡ file_of h image = other_file h g new image apart in
        let one : TornFile h at units.items x target = record {
          torn = subst (λ (o : Units). Torn at units.items o (file_of h target)) (sym x_is)
              (subst (λ (n : Units). Torn at units.items (file_of h from) n) (sym target_is) torn.torn);
          others = ap (λ (f : Files). with_file g new f) torn.others
              ∙ with_file_comm g h new (file_of h image) from differ
              ∙ ap (λ (u : Units). with_file h u x) (sym target_is);
        } in
        (x, mixes g from here, subst (λ (u : Units). TornFile h at units.items x (with_file g u image)) (sym (other_file g h written files differ)) one)
mixes_step (Synced h) files images mixes g image (here, durable) = (
  mixes g image here,
  ⊎_elim (λ is. ap (λ (f : File). file_of h (with_file f (file_of f files) image)) is ∙ file_of-with h (file_of h files) image)
      (λ differ. other_file h g (file_of g files) image (λ e. differ (sym e)) ∙ durable) (cases_file g h),
)

mixes_steps : (steps : List Step) (files : Files) (images : Files → Type 0) → Mixes files images → Mixes (after_steps steps files)
    (LeftBySteps steps files images)
mixes_steps [] files images mixes = mixes
mixes_steps (step ∷ steps) files images mixes = mixes_steps steps (after_step step files) (LeftByStep step files images) (mixes_step step files images mixes)

pub image_step : (past : List Step) (step : Step) (first image next : Files) → Images past first image → StepsTo step (after_steps past first) image
    next → Images (past ++ step ∷ []) first next
image_step past (Wrote file at units) first image next here to = push_left past (Wrote file at units) first (λ x. x ≡ first) next (image, here, to)
image_step past (Synced file) first image next here to =
    let now = after_steps past first in
    let durable = mixes_steps past first (λ x. x ≡ first) (λ g x is. ap (λ (f : Files). with_file g (file_of g first) f) is
    ∙ sym (with_itself g first)) file image here in
    push_left past (Synced file) first (λ x. x ≡ first) next
    (subst (λ (f : Files). Images past first f) (sym to) durable, ap (λ (f : Files). file_of file f) to ∙ file_of-with file (file_of file now) image)
