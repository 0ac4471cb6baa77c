-- What a replay from a copy begins with.
use Rattle.std.proofs.Common.{◌≡◌, inl, inr, ℕ, ◌≤◌, List, take, sym, ◌∙◌, ap, arith}
use Rattle.rpm_outside.proofs.Vocabulary.{after_steps, as_read_now, Copies, Files, HoldCopies, Images, now_images, Pick, picked_image, StartsFrom, Step}

-- what a replay from a copy begins with
pub record Begun (steps : List Step) (first : Files) (pick : Pick) (at : ℕ) (files : Files) : Type 0 where
  pub now : files ≡ after_steps (take at steps) first
  pub picked_is : files ≡ picked_image pick (take at steps) first first
  pub image : Images (take at steps) first files

module _ (copies : Copies) (steps : List Step) (first now : Files) (hold : HoldCopies copies steps first now) where
  read_begun : (pick : Pick) (at : ℕ) (files : Files) → files ≡ after_steps (take at steps) first → files ≡ picked_image pick (take at steps) first first
      → Begun steps first pick at files
  read_begun pick at files read is = record {
    now = read;
    picked_is = is;
    image = now_images (take at steps) first files (as_read_now (take at steps) first files read);
  }

  pub begun : (pick : Pick) (moment at : ℕ) (files : Files) → StartsFrom copies.kept.items first moment at files → Begun steps first pick at files
  begun pick moment at files (inl (zeros, is)) = read_begun pick at files
      (is ∙ ap (λ (n : ℕ). after_steps (take n steps) first) (sym zeros))
      (is ∙ ap (λ (n : ℕ). picked_image pick (take n steps) first first) (sym zeros))
  begun pick moment at files (inr from) =
      let copy = hold.each from.has.k from.copy from.has.there in
      read_begun pick at files
      (from.files_are ∙ copy.read ∙ ap (λ (n : ℕ). after_steps (take n steps) first) (sym from.at_is))
      (from.files_are ∙ sym (copy.picked pick) ∙ ap (λ (n : ℕ). picked_image pick (take n steps) first first) (sym from.at_is))

  pub begun_before : (moment at : ℕ) (files : Files) → StartsFrom copies.kept.items first moment at files → at ≤ moment
  begun_before moment at files (inl (zeros, is)) = omega (arith, zeros)
  begun_before moment at files (inr from) = omega (arith, from.at_is, from.has.before)
