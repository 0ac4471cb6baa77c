-- The capabilities that a command line names.
use Rattle.std.specs.Prelude.{ℕ, List, [], ◌∷◌, Option, Some, None, Result, Ok, Err, not, ◌||◌, ◌+◌, ◌==◌}
use Rattle.std.specs.Prelude.{if◌then◌else◌, length, filter, codes}
use Rattle.std.specs.List.{slice_split}
use Rattle.std.specs.Str.{bytes_eq}
use Rattle.rpm_version.specs.declared.capability.BadCapability.{BadCapability}
use Rattle.rpm_version.specs.declared.range.TheConstants.{LESS, EQUAL, GREATER}

-- a name, the bits of a sense, and a version
pub record CapabilityParts : Type 0 where
  pub name : List ℕ
  pub flags : ℕ
  pub evr : List ℕ

-- what stands between runs of spaces and tabs
unfoldable pub words : List ℕ → List (List ℕ)
words text = filter (λ part. not (length part == 0)) (slice_split (λ b. (b == 32) || (b == 9)) text)

-- the bits of a sign: less 2, greater 4, equal 8
unfoldable pub sense : List ℕ → Option ℕ
sense sign =
    if bytes_eq sign (codes "<") then Some LESS
    else if bytes_eq sign (codes "<=") then Some (LESS + EQUAL)
    else if bytes_eq sign (codes "=") then Some EQUAL
    else if bytes_eq sign (codes ">=") then Some (GREATER + EQUAL)
    else if bytes_eq sign (codes ">") then Some GREATER
    else None

-- the capability that a text names, or none: one word, or three of which the second is a sign
unfoldable pub capability : List ℕ → Result CapabilityParts BadCapability
capability text = elim (words text) [
  | name ∷ [] ↦ Ok (record { name = name; flags = 0; evr = [] })
  | name ∷ sign ∷ evr ∷ [] ↦
      (elim (sense sign) [ Some bits ↦ Ok (record { name = name; flags = bits; evr = evr }) | None ↦ Err (record {}) ])
  | others ↦ Err (record {})
]
