-- What is kept of the tags of a bracket.
use Rattle.std.specs.Prelude.{◌≡◌, ℕ, List, Option, Some, slice_get, All, IfSome}
use Rattle.rpm_header.specs.Header.{Header}
use Rattle.rpm_tags.specs.declared.tag.Tag.{Tag}
use Rattle.rpm_tags.specs.Value.{Elements, value}
use Rattle.rpm_qfeval.specs.declared.columns.Found.{Found}

-- the texts that are read are those of the value
abbrev pub IsColumn : Found → Option Elements → Type 0
IsColumn found texts = IfSome texts (λ value. found.value ≡ Some value)

-- what is kept of a tag is its value
abbrev pub IsValue : Header → ℕ → Found → Type 0
IsValue header number found = found.value ≡ value header number found.asked.tag

abbrev pub AreValues : Header → ℕ → List (Option Found) → Type 0
AreValues header number kept = All (λ o. IfSome o (IsValue header number)) kept

-- what is kept at a place is of this tag
abbrev pub IsOfTag : List (Option Found) → ℕ → Tag → Type 0
IsOfTag kept k tag = (found : Found) → slice_get kept k ≡ Some (Some found) → found.asked.tag ≡ tag
