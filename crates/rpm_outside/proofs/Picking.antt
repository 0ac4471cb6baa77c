-- What is picked is an image.
use Rattle.std.proofs.Common.{◌≡◌, ◌⊎◌, inl, inr, ℕ, Bool, true, false, if◌then◌else◌, List, [], ◌∷◌, ◌++◌, map, length, refl, sym, ◌∙◌, ap, subst, arith}
use Rattle.std.proofs.lemmas.List.{get_or_past}
use Rattle.std.proofs.lemmas.List.FromFn.{length-map-range_with_len, get_or-map-range_with_len}
use Rattle.std.proofs.lemmas.Bool.{cases_lt}
use Rattle.rpm_outside.proofs.Vocabulary.{after_step, after_steps, blank, file_of, file_of-with, Files, length-put, Mixed, mixed_unit, New, Old, Pick, units_of_pick}
use Rattle.rpm_outside.proofs.Vocabulary.{picked_image, picked_step, with_units, range_with_len, Step, StepsTo, Synced, takes_new, Torn, torn_none, torn_whole}
use Rattle.rpm_outside.proofs.Vocabulary.{unit_at, Units, with_file, Wrote}

module _ (seed at : ℕ) (units file : Units) where
  abbrev new : Units
  new = with_units at units file

  choice : (b : Bool) (i : ℕ) → ((if b then unit_at new i else unit_at file i) ≡ unit_at file i) ⊎ ((if b then unit_at new i else unit_at file i)
      ≡ unit_at new i)
  choice true i = inr refl
  choice false i = inl refl

  mixed_is : (i : ℕ) → (unit_at (map (mixed_unit seed file new) (range_with_len 0 (length new))) i ≡ unit_at file i)
      ⊎ (unit_at (map (mixed_unit seed file new) (range_with_len 0 (length new))) i ≡ unit_at new i)
  mixed_is i = elim (cases_lt i (length new)) [
    | inl inside ↦
        (let is : unit_at (map (mixed_unit seed file new) (range_with_len 0 (length new))) i ≡ mixed_unit seed file new i = get_or-map-range_with_len
        (mixed_unit seed file new) 0 (length new) i i blank inside (omega arith) in
        elim (choice (takes_new seed i) i) [ inl old ↦ inl (is ∙ old) | inr taken ↦ inr (is ∙ taken) ])
    | inr past ↦
        inl (get_or_past (map (mixed_unit seed file new) (range_with_len 0 (length new))) i blank
        (omega (arith, length-map-range_with_len (mixed_unit seed file new) 0 (length new)))
        ∙ sym (get_or_past file i blank (omega (arith, length-put at units file))))
  ]

picked_torn : (pick : Pick) (at : ℕ) (units file : Units) → Torn at units file (units_of_pick pick at units file)
unfolding units_of_pick
picked_torn Old at units file = torn_none at units file
picked_torn New at units file = torn_whole at units file
picked_torn (Mixed seed) at units file = record {
  each = mixed_is seed at units file;
  no_shorter =
      omega (
        arith,
        length-put at units file,
        length-map-range_with_len (mixed_unit seed file (with_units at units file)) 0
            (length (with_units at units file)),
      );
  no_longer = omega (arith, length-map-range_with_len (mixed_unit seed file (with_units at units file)) 0 (length (with_units at units file)));
}

pub picked_step_to : (pick : Pick) (step : Step) (files image : Files) → StepsTo step files image (picked_step pick step files image)
picked_step_to pick (Synced file) files image = refl
picked_step_to pick (Wrote file at units) files image =
    let next = units_of_pick pick at units.items (file_of file image) in
    let is = file_of-with file next image in
    record {
      torn = subst (λ (u : Units). Torn at units.items (file_of file image) u) (sym is) (picked_torn pick at units.items (file_of file image));
      others = ap (λ (u : Units). with_file file u image) (sym is);
    }

pub picked_image-push : (pick : Pick) (steps : List Step) (step : Step) (files image : Files) → picked_image pick (steps ++ step ∷ []) files image
    ≡ picked_step pick step (after_steps steps files) (picked_image pick steps files image)
picked_image-push pick [] step files image = refl
picked_image-push pick (s ∷ steps) step files image = picked_image-push pick steps step (after_step s files) (picked_step pick s files image)
