-- What one number adds to a report.
use Rattle.std.specs.Prelude.{◌≡◌, ℕ, List, [], ◌∷◌, Bool, Option, Some, None}
use Rattle.rpm_tags.specs.Wanted.{Need}
use Rattle.rpm_db.specs.State.{Package}
use Rattle.rpm_check.specs.declared.list.Unmet.{Unmet}
use Rattle.rpm_check.specs.inner.Parts.{unmet_of}

-- nothing where no package has the number
abbrev pub unmet_at : (Need → Bool) → ℕ → Option Package → List Unmet
unmet_at is_lacking n None = []
unmet_at is_lacking n (Some p) = unmet_of is_lacking (n, p)

-- the first of a list, or none where it is empty
abbrev pub IsFirst : List Unmet → Option Unmet → Type 0
IsFirst us None = us ≡ []
IsFirst us (Some u) = (rest : List Unmet) × (us ≡ u ∷ rest)
