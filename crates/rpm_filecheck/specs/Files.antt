-- What a header says of its files.
use Rattle.std.specs.Prelude.{ℕ, List, [], ◌∷◌, drop, Option, Some, None, if◌then◌else◌}
use Rattle.std.specs.Str.{bytes_eq}
use Rattle.rpm_header.specs.Header.{Header}
use Rattle.rpm_tags.specs.declared.tag.Tag.TheVariants.{Filenames}
use Rattle.rpm_tags.specs.Value.{text_list, texts_in, numbers_in, value}
use Rattle.rpm_tags.specs.Wanted.{list_or_empty, first_or}
use Rattle.rpm_filecheck.specs.declared.columns.TheConstants.{FILEDIGESTS, FILEFLAGS, FILELINKTOS, FILEMODES}

-- a file's facts are what its conflicts hang on
pub record Facts : Type 0 where
  pub mode : ℕ
  pub digest : List ℕ
  pub link : List ℕ
  pub flags : ℕ

-- a path, and the facts of the file that stand beside it
pub record OwnFile : Type 0 where
  pub path : List ℕ
  pub facts : Facts

-- the lists that stand beside the paths
pub record Columns : Type 0 where
  pub modes : List ℕ
  pub digests : List (List ℕ)
  pub links : List (List ℕ)
  pub flags : List ℕ

-- a tag that is missing or of another class has no element
unfoldable pub columns : Header → Columns
columns h = record {
  modes = list_or_empty (numbers_in h FILEMODES);
  digests = list_or_empty (texts_in h FILEDIGESTS);
  links = list_or_empty (texts_in h FILELINKTOS);
  flags = list_or_empty (numbers_in h FILEFLAGS);
}

-- the first of each, or 0 and the empty text
abbrev pub first_facts : Columns → Facts
first_facts c = record {
  mode = first_or 0 c.modes;
  digest = first_or [] c.digests;
  link = first_or [] c.links;
  flags = first_or 0 c.flags;
}

-- the columns without their first elements
abbrev pub rest_of : Columns → Columns
rest_of c =
    record { modes = drop 1 c.modes; digests = drop 1 c.digests; links = drop 1 c.links; flags = drop 1 c.flags }

-- each path with the facts at its place
abbrev pub beside_facts : List (List ℕ) → Columns → List OwnFile
beside_facts [] c = []
beside_facts (path ∷ paths) c = record { path = path; facts = first_facts c } ∷ beside_facts paths (rest_of c)

-- The files of a header, in its order.
unfoldable pub files : Header → List OwnFile
files h = beside_facts (elim (value h 0 Filenames) [ Some v ↦ text_list v | None ↦ [] ]) (columns h)

-- what is said of a path: the facts at the first place that has it
abbrev pub said_of : List ℕ → List OwnFile → Option Facts
said_of path [] = None
said_of path (f ∷ fs) = if bytes_eq path f.path then Some f.facts else said_of path fs
