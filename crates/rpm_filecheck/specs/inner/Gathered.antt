-- The owners of all paths, one package after the other.
use Rattle.std.specs.Prelude.{ℕ, ◌==◌, List, [], ◌∷◌, ◌++◌, Option, Some, None, Result, Ok, Err, if◌then◌else◌, Vec}
use Rattle.std.specs.declared.alloc.Global.{Global}
use Rattle.std.specs.declared.cmp.Ordering.{Ordering}
use Rattle.std.specs.Ordering.{nat_cmp}
use Rattle.std.specs.FinMap.{find, put}
use Rattle.rpm_header.specs.declared.form.HeaderFault.{HeaderFault}
use Rattle.rpm_header.specs.Header.{Header, header}
use Rattle.rpm_db.specs.State.{Package, Good, Bad}
use Rattle.rpm_filecheck.specs.Conflicts.{conflict_label}
use Rattle.rpm_filecheck.specs.inner.Parts.{path_order}
use Rattle.rpm_filecheck.specs.Files.{OwnFile, files}
use Rattle.rpm_filecheck.specs.Owners.{Owner}

-- the order of paths, of the code's own vectors
abbrev pub key_order : Vec ℕ Global → Vec ℕ Global → Ordering
key_order x y = path_order x.items y.items

-- a list of owners ends with this number: that of the last, or the one given where there is none
abbrev pub last_from : ℕ → List Owner → ℕ
last_from n [] = n
last_from n (o ∷ os) = last_from o.number os

-- one more after them, but for a second place in the package of the last
abbrev pub owners_with : List Owner → Owner → List Owner
owners_with os o = if last_from 0 os == o.number then os else os ++ o ∷ []

-- an owner after those that are there
abbrev pub joined_to : Option (List Owner) → Owner → List Owner
joined_to None o = o ∷ []
joined_to (Some os) o = owners_with os o

-- each path with its owners
abbrev pub OwnedPaths : Type 0
OwnedPaths = List (List ℕ × List Owner)

-- one more owner of a path
abbrev pub with_owner : List ℕ → Owner → OwnedPaths → OwnedPaths
with_owner path o es = put path_order path (joined_to (find path_order path es) o) es

-- a map of paths gets the files of a package
abbrev pub with_files : ℕ → List OwnFile → OwnedPaths → OwnedPaths
with_files n [] es = es
with_files n (f ∷ fs) es = with_files n fs (with_owner f.path (record { number = n; facts = f.facts }) es)

-- ---- of all packages so far

-- each number with its label
abbrev pub Labels : Type 0
Labels = List (ℕ × List ℕ)

-- what is gathered of the packages so far
pub record GatheredFiles : Type 0 where
  pub paths : OwnedPaths
  pub labels : Labels
  pub bad : List ℕ

-- before the first package
abbrev pub no_files : GatheredFiles
no_files = record { paths = []; labels = []; bad = [] }

-- one more package, with its files and its label
abbrev pub with_header : ℕ → Header → GatheredFiles → GatheredFiles
with_header n h f =
    record { paths = with_files n (files h) f.paths; labels = put nat_cmp n (conflict_label h) f.labels; bad = f.bad }

-- one more package that can't be read
abbrev pub with_bad : ℕ → GatheredFiles → GatheredFiles
with_bad n f = record { paths = f.paths; labels = f.labels; bad = f.bad ++ n ∷ [] }

-- one more package by bytes that may be no header
abbrev pub with_read : ℕ → Result Header HeaderFault → GatheredFiles → GatheredFiles
with_read n (Ok h) f = with_header n h f
with_read n (Err fault) f = f

-- one more package
abbrev pub with_package : ℕ → Package → GatheredFiles → GatheredFiles
with_package n (Good bytes) f = with_read n (header bytes) f
with_package n Bad f = with_bad n f

-- one more package, if the number has one
abbrev pub with_some : ℕ → Option Package → GatheredFiles → GatheredFiles
with_some n None f = f
with_some n (Some p) f = with_package n p f

-- one after the other
abbrev pub with_packages : List (ℕ × Package) → GatheredFiles → GatheredFiles
with_packages [] f = f
with_packages (e ∷ es) f = with_packages es (with_package e.0 e.1 f)
