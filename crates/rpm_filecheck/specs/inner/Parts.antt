-- The parts of definitions under names of their own, by which proofs go through them one by one.
use Rattle.std.specs.Prelude.{ℕ, List, [], ◌∷◌, map, filter, Option, Some, None, Result, Ok, Err}
use Rattle.std.specs.List.{flat_map}
use Rattle.std.specs.declared.cmp.Ordering.{Ordering}
use Rattle.std.specs.Ordering.{nat_cmp}
use Rattle.std.specs.Cmp.Lexicographic.{slice_cmp}
use Rattle.rpm_header.specs.declared.form.HeaderFault.{HeaderFault}
use Rattle.rpm_header.specs.Header.{Header}
use Rattle.rpm_db.specs.State.{Package, Good, Bad}
use Rattle.rpm_filecheck.specs.Conflicts.{files_of}
use Rattle.rpm_filecheck.specs.Files.{Facts, OwnFile, files, said_of}
use Rattle.rpm_filecheck.specs.Owners.{Conflict, Owner, conflict, is_conflict}

-- What was read as a header has its files.
abbrev pub files_read : Result Header HeaderFault → List OwnFile
files_read (Ok h) = files h
files_read (Err fault) = []

-- A package as the owner of a file, if it has it.
abbrev pub as_owner : ℕ → Option Facts → List Owner
as_owner n None = []
as_owner n (Some facts) = record { number = n; facts = facts } ∷ []

-- A package as an owner, where it has the path.
abbrev pub owner_of : List ℕ → ℕ × Package → List Owner
owner_of path (n, p) = as_owner n (said_of path (files_of p))

-- The paths of one package.
abbrev pub own_paths : ℕ × Package → List (List ℕ)
own_paths (n, p) = map (λ f. f.path) (files_of p)

-- The paths of the packages of a list.
abbrev pub all_paths : List (ℕ × Package) → List (List ℕ)
all_paths es = flat_map own_paths es

-- Paths stand in order byte by byte.
abbrev pub path_order : List ℕ → List ℕ → Ordering
path_order = slice_cmp nat_cmp

-- The number of a package that can't be read, or nothing.
abbrev pub bad_of : ℕ × Package → List ℕ
bad_of (n, Good bytes) = []
bad_of (n, Bad) = n ∷ []

-- An owner has these conflicts with the owners of a list.
abbrev pub conflicts_with : List ℕ → Owner → List Owner → List Conflict
conflicts_with path a os = map (conflict path a) (filter (is_conflict path a) os)
