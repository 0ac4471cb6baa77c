-- The paths that several packages own and that differ.
use Rattle.std.specs.Prelude.{◌≡◌, ℕ, List, [], ◌∷◌, map, codes, Option, Some, None, Result, Ok, Err}
use Rattle.std.specs.List.{flat_map}
use Rattle.std.specs.Option.{option_and_then}
use Rattle.std.specs.Ordering.{nat_cmp}
use Rattle.std.specs.Cmp.Lexicographic.{slice_cmp}
use Rattle.std.specs.FinMap.{FinMap, entries, from_entries, find, get}
use Rattle.rpm_header.specs.declared.form.HeaderFault.{HeaderFault}
use Rattle.rpm_header.specs.Header.{Header, header}
use Rattle.rpm_tags.specs.declared.tag.Tag.TheVariants.{Nvra}
use Rattle.rpm_tags.specs.Value.{Elements, TextList, value}
use Rattle.rpm_db.specs.State.{Package, Good, Bad, package_or}
use Rattle.rpm_filecheck.specs.Files.{OwnFile, files, said_of}
use Rattle.rpm_filecheck.specs.Owners.{Owner, Conflict, conflicts_on}

-- ---- who owns what

-- A package has the files of its header: none where it can't be read.
abbrev pub files_of : Package → List OwnFile
files_of p = package_or files p []

-- A path is owned by those of these packages that have it, one after the other.
abbrev pub owners : List ℕ → List (ℕ × Package) → List Owner
owners path es = flat_map (λ e. elim (said_of path (files_of e.1)) [
  | Some facts ↦ record { number = e.0; facts = facts } ∷ []
  | None ↦ []
]) es

-- Each path of a file, by its bytes, with its owners by rising number.
unfoldable pub owned_paths : FinMap nat_cmp Package → FinMap (slice_cmp nat_cmp) (List Owner)
owned_paths packages = from_entries (map (λ path. (path, owners path (entries packages)))
    (flat_map (λ e. map (λ f. f.path) (files_of e.1)) (entries packages)))

-- a database has these conflicts, by path, then by the first number, then by the second
unfoldable pub conflicts : FinMap nat_cmp Package → List Conflict
conflicts packages = flat_map (λ e. conflicts_on e.0 e.1) (entries (owned_paths packages))

-- ---- what goes with them

-- The numbers of the packages that can't be read, rising.
unfoldable pub bad : FinMap nat_cmp Package → List ℕ
bad packages = flat_map (λ e. elim e.1 [ Good bytes ↦ [] | Bad ↦ e.0 ∷ [] ]) (entries packages)

-- the first text of a value, as a format without width prints it
abbrev pub printed_text : Option Elements → List ℕ
printed_text (Some (TextList (text ∷ texts))) = text
printed_text _ = codes "(none)"

-- what is printed of a header as its label
abbrev pub conflict_label : Header → List ℕ
conflict_label h = printed_text (value h 0 Nvra)

-- bytes have the label of their header: none where they are no header
abbrev pub label_read : Result Header HeaderFault → Option (List ℕ)
label_read (Ok h) = Some (conflict_label h)
label_read (Err fault) = None

-- a package has the label of its header: none where it is Bad
abbrev pub label_of : Package → Option (List ℕ)
label_of (Good bytes) = label_read (header bytes)
label_of Bad = None

-- the label of a number, where its package can be read
abbrev pub label_at : FinMap nat_cmp Package → ℕ → Option (List ℕ)
label_at packages n = option_and_then label_of (get packages n)

-- ---- all of it

-- the conflicts, the numbers that can't be read, and the labels by number
pub record Report : Type 0 where
  pub conflicts : List Conflict
  pub bad : List ℕ
  pub labels : List (ℕ × List ℕ)

-- what a report has as the label of a number
abbrev pub told_label : Report → ℕ → Option (List ℕ)
told_label r n = find nat_cmp n r.labels

-- a report has the conflicts of these packages, the labels of their owners, and those that can't be read
pub record IsReport (packages : FinMap nat_cmp Package) (report : Report) : Type 0 where
  pub conflicts_are : report.conflicts ≡ conflicts packages
  pub bad_are : report.bad ≡ bad packages
  pub labels_are : (n : ℕ) → told_label report n ≡ label_at packages n
