-- What a question asks of a header: whether a file counts for a path, and what is needed or given at a place.
use Rattle.std.specs.Prelude.{ℕ, Bool, ◌&&◌, ◌==◌, List, [], ◌∷◌, drop, Option, unwrap_or}
use Rattle.std.specs.List.{list_any, zip, after_last}
use Rattle.std.specs.Str.{bytes_eq}
use Rattle.rpm_header.specs.Header.{Header}
use Rattle.rpm_tags.specs.declared.needed.Tags.{Tags}
use Rattle.rpm_tags.specs.Numbers.{DIRINDEXES, BASENAMES, DIRNAMES}
use Rattle.rpm_tags.specs.Value.{filenames, texts_in, numbers_in}

-- the elements of a list, and none where it is missing
abbrev pub list_or_empty : {X : Type 0} → Option (List X) → List X
list_or_empty xs = unwrap_or xs []

-- ---- files

-- what follows the last slash (47) of a path, or all of it where it has none
abbrev pub base_name : List ℕ → List ℕ
base_name path = after_last (λ b. b == 47) path

-- a file, by its path and its name, counts for this path
abbrev pub counts_for : List ℕ → List ℕ × List ℕ → Bool
counts_for path (file, base) = bytes_eq file path && bytes_eq base (base_name path)

-- an element of FILENAMES counts for this path
unfoldable pub has_file : Header → List ℕ → Bool
has_file h path =
    let files = filenames (texts_in h DIRNAMES) (numbers_in h DIRINDEXES) (texts_in h BASENAMES) in
    list_any (counts_for path) (zip (list_or_empty files) (list_or_empty (texts_in h BASENAMES)))

-- ---- what is needed or given

-- a name with the flags and the version beside it
pub record Need : Type 0 where
  pub name : List ℕ
  pub flags : ℕ
  pub version : List ℕ

-- the first element, or another where there is none
abbrev pub first_or : {X : Type 0} → X → List X → X
first_or other [] = other
first_or other (x ∷ xs) = x

-- each name with the flags and the version at its place, which are 0 and the empty text where the lists are too short
abbrev pub beside : List (List ℕ) → List ℕ → List (List ℕ) → List Need
beside [] flags versions = []
beside (name ∷ names) flags versions =
    record { name = name; flags = first_or 0 flags; version = first_or [] versions }
    ∷ beside names (drop 1 flags) (drop 1 versions)

-- arrays that are missing or of another class are empty
unfoldable pub dependencies : Tags → Header → List Need
dependencies tags h = beside (list_or_empty (texts_in h tags.names)) (list_or_empty (numbers_in h tags.flags))
    (list_or_empty (texts_in h tags.versions))
