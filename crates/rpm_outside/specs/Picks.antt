-- Which image of a moment is picked.
use Rattle.std.specs.Prelude.{ℕ, ◌/◌, ◌%◌, ◌^◌, List, [], ◌∷◌, length, map, Bool, ◌==◌, if◌then◌else◌}
use Rattle.std.specs.List.{range_with_len}
use Rattle.rpm_outside.specs.declared.steps.Pick.{Pick}
use Rattle.rpm_outside.specs.declared.steps.Pick.TheVariants.{Old, New, Mixed}
use Rattle.rpm_outside.specs.declared.steps.Step.{Step}
use Rattle.rpm_outside.specs.declared.steps.Step.TheVariants.{Wrote, Synced}
use Rattle.rpm_outside.specs.Files.{Units, Files, file_of, with_file, unit_at, with_units}
use Rattle.rpm_outside.specs.Past.{after_step}

-- bit i of a number, counted round its 64 bits
abbrev pub takes_new : ℕ → ℕ → Bool
takes_new seed i = (seed / 2 ^ (i % 64)) % 2 == 1

-- a unit of the old file or of the new one
abbrev pub mixed_unit : ℕ → Units → Units → ℕ → List ℕ
mixed_unit seed old new i = if takes_new seed i then unit_at new i else unit_at old i

-- what a crash is taken to leave of a write
unfoldable pub units_of_pick : Pick → ℕ → Units → Units → Units
units_of_pick Old at units file = file
units_of_pick New at units file = with_units at units file
units_of_pick (Mixed seed) at units file =
    map (mixed_unit seed file (with_units at units file)) (range_with_len 0 (length (with_units at units file)))

-- a step makes this of an image, where these files are read before the step
abbrev pub picked_step : Pick → Step → Files → Files → Files
picked_step pick (Wrote file at units) files image =
    with_file file (units_of_pick pick at units.items (file_of file image)) image
picked_step pick (Synced file) files image = with_file file (file_of file files) image

-- several steps make this of an image
abbrev pub picked_image : Pick → List Step → Files → Files → Files
picked_image pick [] files image = image
picked_image pick (step ∷ steps) files image =
    picked_image pick steps (after_step step files) (picked_step pick step files image)
