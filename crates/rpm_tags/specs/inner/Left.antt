-- The texts of a value that are left.
use Rattle.std.specs.Prelude.{ℕ, ◌≤◌, List, [], ◌∷◌, Some, None, length, All}
use Rattle.std.specs.List.{concat}
use Rattle.rpm_header.specs.Header.{max_data}
use Rattle.rpm_tags.specs.declared.texts.Left.{Left}
use Rattle.rpm_tags.specs.declared.texts.Left.TheVariants as left

abbrev pub texts_left : Left → List (List ℕ)
texts_left (left.Stored texts) = texts
texts_left (left.Joined None) = []
texts_left (left.Joined (Some parts)) = concat parts ∷ []
texts_left (left.Files paths) = paths

abbrev pub IsPartLeft : Left → Type 0
IsPartLeft (left.Stored texts) = All (λ text. length text ≤ max_data) texts
IsPartLeft _ = Unit {0}
