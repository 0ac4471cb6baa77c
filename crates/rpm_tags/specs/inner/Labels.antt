-- The parts of a label.
use Rattle.std.specs.Prelude.{ℕ, List, [], ◌∷◌, codes}

-- a version and a release, with a hyphen between them
abbrev pub release_parts : List ℕ → List ℕ → List (List ℕ)
release_parts v r = v ∷ codes "-" ∷ r ∷ []

-- a name and the hyphen after it
abbrev pub name_parts : List ℕ → List (List ℕ)
name_parts n = n ∷ codes "-" ∷ []
