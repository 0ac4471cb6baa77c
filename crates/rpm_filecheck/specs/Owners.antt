-- The owners of a path, and which two of them conflict.
use Rattle.std.specs.Prelude.{ℕ, ◌/◌, ◌%◌, Bool, not, ◌&&◌, ◌||◌, ◌==◌, List, [], ◌∷◌, ◌++◌, map, filter}
use Rattle.std.specs.Str.{bytes_eq}
use Rattle.rpm_filecheck.specs.Files.{Facts}

-- a package's number, and what it says of the path
pub record Owner : Type 0 where
  pub number : ℕ
  pub facts : Facts

-- two packages that conflict on a path, and the parts that differ
pub record Conflict : Type 0 where
  pub path : List ℕ
  pub first : ℕ
  pub second : ℕ
  pub digest : Bool
  pub mode : Bool
  pub link : Bool

-- two owners of a path, and what differs between their files
abbrev pub conflict : List ℕ → Owner → Owner → Conflict
conflict path a b = record {
  path = path;
  first = a.number;
  second = b.number;
  digest = not (bytes_eq a.facts.digest b.facts.digest);
  mode = not (a.facts.mode == b.facts.mode);
  link = not (bytes_eq a.facts.link b.facts.link);
}

-- bits 12 to 15 of the mode are 4
abbrev pub is_directory : Facts → Bool
is_directory f = (f.mode / 4096) % 16 == 4

-- bit 6 of the flags
abbrev pub is_ghost : Facts → Bool
is_ghost f = (f.flags / 64) % 2 == 1

-- two directories share a path, and so does a ghost with all
abbrev pub may_share : Facts → Facts → Bool
may_share a b = (is_directory a && is_directory b) || (is_ghost a || is_ghost b)

-- The two files may not share the path, and something differs.
abbrev pub is_conflict : List ℕ → Owner → Owner → Bool
is_conflict path a b =
    let c = conflict path a b in not (may_share a.facts b.facts) && (c.digest || (c.mode || c.link))

-- A path has the conflicts of each owner with those after it.
abbrev pub conflicts_on : List ℕ → List Owner → List Conflict
conflicts_on path [] = []
conflicts_on path (a ∷ os) = map (conflict path a) (filter (is_conflict path a) os) ++ conflicts_on path os
