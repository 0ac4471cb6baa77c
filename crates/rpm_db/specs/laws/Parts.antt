-- The parts of definitions under names of their own, by which proofs go through them one by one.
use Rattle.std.specs.Prelude.{ℕ, List, [], map, Result, Ok, Err}
use Rattle.std.specs.List.{flat_map}
use Rattle.rpm_header.specs.declared.form.HeaderFault.{HeaderFault}
use Rattle.rpm_header.specs.Header.{Header}
use Rattle.rpm_tags.specs.declared.kind.Kind.{Kind}
use Rattle.rpm_tags.specs.Kinds.{code_of}
use Rattle.rpm_tags.specs.Keys.{keys}
use Rattle.rpm_hindex.specs.Rows.{Row}
use Rattle.rpm_hindex.specs.Sizes.{live_of}
use Rattle.rpm_db.specs.Changes.{Change}
use Rattle.rpm_db.specs.Reaches.{added_rows}
use Rattle.rpm_db.specs.Rows.{header_rows, package_rows}
use Rattle.rpm_db.specs.State.{Package, Good, Bad, State}

-- What was read as a header is a good package, and anything else a bad one.
abbrev pub read_as : Result Header HeaderFault → Package
read_as (Ok h) = Good h.blob
read_as (Err fault) = Bad

-- The row of a key and its place, in a package of this number.
abbrev pub key_row : ℕ → Kind → List ℕ × ℕ → Row
key_row n k key = record { kind = code_of k; key = key.0; number = n; place = key.1 }

-- A header's rows of the keys of one kind.
abbrev pub kind_rows : ℕ → Header → Kind → List Row
kind_rows n h k = map (key_row n k) (keys k h)

-- What was read as a header has its rows, and anything else none.
abbrev pub rows_read : ℕ → Result Header HeaderFault → List Row
rows_read n (Ok h) = header_rows n h
rows_read n (Err fault) = []

-- The rows of the packages of a list.
abbrev pub rows_in : List (ℕ × Package) → List Row
rows_in es = flat_map (λ e. package_rows e.0 e.1) es

-- The units of the records that a change adds.
abbrev pub added_units : State → Change → ℕ
added_units s change = live_of (added_rows s change)
