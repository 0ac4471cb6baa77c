-- The keys of a header, with their places.
use Rattle.std.specs.Prelude.{ℕ, List, map, length}
use Rattle.std.specs.List.{zip, range_with_len}
use Rattle.std.specs.Int.{w64, to_be_bytes}
use Rattle.rpm_header.specs.Header.{Header}
use Rattle.rpm_tags.specs.declared.kind.Kind.{Kind}
use Rattle.rpm_tags.specs.declared.kind.Kind.TheVariants as kind
use Rattle.rpm_tags.specs.Kinds.{code_and_tag}
use Rattle.rpm_tags.specs.Numbers.{INSTALLTID}
use Rattle.rpm_tags.specs.Value.{texts_in, numbers_in}
use Rattle.rpm_tags.specs.Wanted.{list_or_empty}

-- a number as a key
abbrev pub number_key : ℕ → List ℕ
number_key n = to_be_bytes w64 n

-- the elements of the kind's tag as keys: its numbers for Installtid, its texts for each other kind, and none where it
-- is missing or of another class
abbrev pub key_list : Kind → Header → List (List ℕ)
key_list kind.Installtid h = map number_key (list_or_empty (numbers_in h INSTALLTID))
key_list k h = list_or_empty (texts_in h (code_and_tag k).1)

-- the keys of a kind in a header, each with its place
abbrev pub keys : Kind → Header → List (List ℕ × ℕ)
keys k h = zip (key_list k h) (range_with_len 0 (length (key_list k h)))
