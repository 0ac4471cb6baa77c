-- What a store says: the packages and the number field.
use Rattle.std.specs.Prelude.{ℕ, List, map, filter, nat_lt, Option, Some, None, Result, Ok, Err}
use Rattle.std.specs.Ordering.{nat_cmp}
use Rattle.std.specs.FinMap.{FinMap, entries, from_entries}
use Rattle.rpm_header.specs.declared.form.HeaderFault.{HeaderFault}
use Rattle.rpm_header.specs.Header.{Header, header}
use Rattle.rpm_outside.specs.Files.{Units}
use Rattle.rpm_pkgdb.specs.Store.{Store}
use Rattle.rpm_pkgdb.specs.Blobs.{blobs}

-- a header's own bytes, or none that can be read
pub data Package : Type 0 where
  Good : List ℕ → Package
  Bad : Package

-- What f says of a header, and the other where it can't be read.
abbrev pub header_or : {X : Type 0} → (Header → X) → Result Header HeaderFault → X → X
header_or f read other = elim read [ Ok h ↦ f h | Err fault ↦ other ]

-- What f says of the header of a package, and the other where the package is bad or its header can't be read.
abbrev pub package_or : {X : Type 0} → (Header → X) → Package → X → X
package_or f p other = elim p [ Good bytes ↦ header_or f (header bytes) other | Bad ↦ other ]

-- A number's package is the header of its blob; it is bad where the blob has no right framing or is no header.
abbrev pub package_of : Option (List ℕ) → Package
package_of None = Bad
package_of (Some blob) = header_or (λ h. Good h.blob) (header blob) Bad

-- the package of each number
unfoldable pub packages : Units → Store → FinMap nat_cmp Package
packages file store = from_entries (map (λ e. (e.0, package_of e.1)) (entries (blobs file store)))

-- the packages, and the number that the next one has at least
pub record State : Type 0 where
  pub packages : FinMap nat_cmp Package
  pub field : ℕ

-- the packages and the number field that the store represents
abbrev pub state : Units → Store → State
state file store = record { packages = packages file store; field = store.field }

-- the entries of a map with a number above n
abbrev pub above : {X : Type 0} → ℕ → List (ℕ × X) → List (ℕ × X)
above n es = filter (λ e. nat_lt n e.0) es
