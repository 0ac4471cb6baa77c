-- The rows of the code's table of tags, and a name that is looked for in it.
use Rattle.std.specs.Prelude.{ℕ, List, codes, drop, if◌then◌else◌, map, take}
use Rattle.std.specs.Str.{str_eq_ignore_ascii_case}
use Rattle.rpm_tags.specs.declared.tag.Row.{Row}
use Rattle.rpm_tags.specs.declared.tag.Tag.{Tag}

abbrev pub as_table : List Row → List (Tag × List ℕ)
as_table rows = map (λ (r : Row). (r.0, r.1.now)) rows

-- a tag's plain name has no prefix, which may be in capitals or not
abbrev pub plain : List ℕ → List ℕ
plain name = if str_eq_ignore_ascii_case (take 7 name) (codes "RPMTAG_") then drop 7 name else name
