-- The rows of the index: what the packages say of their keys.
use Rattle.std.specs.Prelude.{ℕ, List, [], ◌∷◌, map, Option, Some, None}
use Rattle.std.specs.List.{flat_map}
use Rattle.std.specs.Ordering.{nat_cmp}
use Rattle.std.specs.FinMap.{FinMap, entries}
use Rattle.rpm_header.specs.Header.{Header}
use Rattle.rpm_tags.specs.declared.kind.Kind.{Kind}
use Rattle.rpm_tags.specs.declared.kind.Kind.TheVariants as kind
use Rattle.rpm_tags.specs.Kinds.{code_of}
use Rattle.rpm_tags.specs.Keys.{keys}
use Rattle.rpm_hindex.specs.Rows.{Row}
use Rattle.rpm_db.specs.State.{Package, package_or}

-- All kinds, by their codes.
abbrev pub kinds : List Kind
kinds =
    kind.Name ∷ kind.Basenames ∷ kind.Group ∷ kind.Providename ∷ kind.Requirename ∷ kind.Conflictname
    ∷ kind.Obsoletename ∷ kind.Triggername ∷ kind.Dirnames ∷ kind.Installtid ∷ kind.Recommendname ∷ []

-- A header has a row for each key of each kind, with the number of its package and the place of the key.
unfoldable pub header_rows : ℕ → Header → List Row
header_rows n h = flat_map (λ k.
    map (λ key. record { kind = code_of k; key = key.0; number = n; place = key.1 }) (keys k h)) kinds

-- A package has the rows of its header; a bad one, or one whose header can't be read, has none.
abbrev pub package_rows : ℕ → Package → List Row
package_rows n p = package_or (header_rows n) p []

-- a number has the rows of its package; one that isn't there has none
abbrev pub rows_at : ℕ → Option Package → List Row
rows_at n None = []
rows_at n (Some p) = package_rows n p

-- The rows of all packages, by rising number.
unfoldable pub rows : FinMap nat_cmp Package → List Row
rows packages = flat_map (λ e. package_rows e.0 e.1) (entries packages)
