-- Ranges of versions: the bits of a sense, and the version that they stand beside.
use Rattle.std.specs.Prelude.{ℕ, List, Bool, false, not, ◌&&◌, ◌||◌, ◌==◌, bit_and, length, Option, Some, None}
use Rattle.std.specs.declared.cmp.Ordering.TheVariants.{Less, Equal, Greater}
use Rattle.rpm_version.specs.Evr.{evr, evr_order}
use Rattle.rpm_version.specs.declared.range.TheConstants.{LESS, GREATER, EQUAL}

-- flags have one of the bits that count, LESS, GREATER or EQUAL
abbrev pub has_sense : ℕ → ℕ → Bool
has_sense flags bit = not (bit_and flags bit == 0)

-- a range that every version is in: no sense, or no version
unfoldable pub is_open : ℕ → List ℕ → Bool
is_open flags text =
    not (has_sense flags LESS || has_sense flags GREATER || has_sense flags EQUAL) || (length text == 0)

-- two ranges share a sense when both have equal, both less, or both greater
unfoldable pub share_sense : ℕ → ℕ → Bool
share_sense fa fb =
    (has_sense fa EQUAL && has_sense fb EQUAL) || (has_sense fa LESS && has_sense fb LESS)
    || (has_sense fa GREATER && has_sense fb GREATER)

-- exactly one side has a release, and the other side has equal
unfoldable pub equal_but_release : ℕ → Option (List ℕ) → ℕ → Option (List ℕ) → Bool
equal_but_release fa (Some release) fb None = has_sense fb EQUAL
equal_but_release fa None fb (Some release) = has_sense fa EQUAL
equal_but_release fa a fb b = false

-- whether two ranges overlap: one is open, or they meet by how the version of A stands to that of B
unfoldable pub overlaps : ℕ → List ℕ → ℕ → List ℕ → Bool
overlaps fa a fb b =
    is_open fa a || is_open fb b || (elim (evr_order (evr a) (evr b)) [
      | Less ↦ has_sense fa GREATER || has_sense fb LESS
      | Greater ↦ has_sense fa LESS || has_sense fb GREATER
      | Equal ↦ share_sense fa fb || equal_but_release fa (evr a).release fb (evr b).release
    ])
