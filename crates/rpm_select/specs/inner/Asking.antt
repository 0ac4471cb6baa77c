-- The keys that are asked, and the packages that have rows of them.
use Rattle.std.specs.Prelude.{◌≡◌, ℕ, List, map, Bool, ◌==◌, ◌&&◌, ◌||◌}
use Rattle.std.specs.List.{list_any}
use Rattle.std.specs.Str.{bytes_eq}
use Rattle.rpm_tags.specs.declared.kind.Kind.{Kind}
use Rattle.rpm_tags.specs.declared.kind.Kind.TheVariants as kind
use Rattle.rpm_tags.specs.Kinds.{code_of}
use Rattle.rpm_hindex.specs.Rows.{Row}
use Rattle.rpm_select.specs.Reach.{is_in}

-- a byte is this one
abbrev pub is_byte : ℕ → ℕ → Bool
is_byte byte b = b == byte

-- names as keys
abbrev pub name_keys : List (List ℕ) → List (Kind × List ℕ)
name_keys names = map (λ name. (kind.Name, name)) names

-- a row of this kind and key, of the package of this number
abbrev pub is_row_of : ℕ → List ℕ → ℕ → Row → Bool
is_row_of kind key n row = (kind == row.kind) && (bytes_eq key row.key && (row.number == n))

-- one of the rows has this kind, key and number
abbrev pub has_row : List Row → ℕ → Kind × List ℕ → Bool
has_row rows n (kind, key) = list_any (is_row_of (code_of kind) key n) rows

-- a list of numbers gets those that have rows of a key
abbrev pub NumbersOfKey : List Row → Kind × List ℕ → List ℕ → List ℕ → Type 0
NumbersOfKey rows key old new = (n : ℕ) → is_in n new ≡ (is_in n old || has_row rows n key)

-- the numbers that have rows of one of these keys
abbrev pub AreWith : List Row → List (Kind × List ℕ) → List ℕ → Type 0
AreWith rows keys ns = (n : ℕ) → is_in n ns ≡ list_any (has_row rows n) keys
