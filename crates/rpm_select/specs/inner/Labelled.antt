-- The labels of a package, part by part.
use Rattle.std.specs.Prelude.{ℕ, List, [], ◌∷◌, ◌++◌, Bool, ◌==◌, ◌||◌, Option, Some, None}
use Rattle.rpm_select.specs.Labels.{with_arch, with_version}

-- The byte of - or of .
abbrev pub is_dash_or_dot : ℕ → Bool
is_dash_or_dot b = b == 45 || b == 46

-- The labels with a release after a name and a version, where there is one.
abbrev pub with_release : Option (List ℕ) → Option (List ℕ) → List ℕ → List (List ℕ)
with_release arch release text = elim release [ Some r ↦ with_arch arch (text ++ 45 ∷ r) | None ↦ [] ]

-- The labels of a package, where there is a name.
abbrev pub with_name : Option (List ℕ) → Option (List ℕ) → Option (List ℕ) → Option (List ℕ) → List (List ℕ)
with_name arch name version release =
    elim name [ Some n ↦ with_arch arch n ++ with_version arch version release n | None ↦ [] ]
