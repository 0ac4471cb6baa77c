-- A tag of a format, after its percent.
use Rattle.std.specs.Prelude.{ℕ, ◌+◌, List, [], ◌∷◌, codes, length, take, drop, Option, Some, None, Result, Ok, Err}
use Rattle.std.specs.Prelude.{Bool, true, false, nat_lt, ◌==◌, if◌then◌else◌}
use Rattle.std.specs.Char.{is_ascii_digit}
use Rattle.std.specs.List.{position, prefix_len}
use Rattle.std.specs.Str.Parse.{digits_value}
use Rattle.std.specs.Map.{lookup}
use Rattle.std.specs.Option.{ok_or, option_map, option_map_or}
use Rattle.std.specs.Str.{bytes_eq}
use Rattle.rpm_tags.specs.declared.tag.Tag.{Tag}
use Rattle.rpm_tags.specs.Table.{tag_of}
use Rattle.rpm_qfparse.specs.declared.fault.FormatKind.{FormatKind}
use Rattle.rpm_qfparse.specs.declared.fault.FormatKind.TheVariants.{MissingOpen, MissingClose, EmptyTag, UnknownTag}
use Rattle.rpm_qfparse.specs.declared.fault.FormatKind.TheVariants.{UnknownFormatter, WidthTooLarge}
use Rattle.rpm_qfparse.specs.declared.tree.Role.{Role}
use Rattle.rpm_qfparse.specs.declared.tree.Role.TheVariants.{Element, First, Count}
use Rattle.rpm_qfparse.specs.declared.tree.Show.{Show}
use Rattle.rpm_qfparse.specs.declared.tree.Show.TheVariants.{Plain, Hex, Octal, Perms, Depflags, Fflags, Fstate, Day}
use Rattle.rpm_qfparse.specs.declared.tree.Show.TheVariants.{Date, Shescape, Base64, Arraysize}
use Rattle.rpm_qfparse.specs.declared.tree.TagPart.{TagPart}

-- ---- what a text is read as

-- the kind of a fault, and the bytes from its place on
abbrev pub Faulty : Type 0
Faulty = FormatKind × List ℕ

-- what is read and the bytes after it, or the first fault
abbrev pub Reading : Type 0 → Type 0
Reading X = Result (X × List ℕ) Faulty

infixl 10 ◌>>=◌
-- goes on with what was found, and stops at a fault
abbrev pub ◌>>=◌ : {A B E : Type 0} → Result A E → (A → Result B E) → Result B E
(Ok x) >>= f = f x
(Err e) >>= f = Err e

-- a text begins with this byte
abbrev pub begins : ℕ → List ℕ → Bool
begins byte [] = false
begins byte (b ∷ s) = b == byte

-- what stands before and after the first such byte
abbrev pub split_once : ℕ → List ℕ → Option (List ℕ × List ℕ)
split_once byte s = option_map (λ i. (take i s, drop (i + 1) s)) (position (λ b. b == byte) s)

-- ---- in front of the name

-- the number that the digits in front write, 0 where there are none
unfoldable pub number_of : List ℕ → ℕ
number_of s = digits_value 10 (take (prefix_len is_ascii_digit s) s)

-- what follows the digits in front
unfoldable pub after_number : List ℕ → List ℕ
after_number s = drop (prefix_len is_ascii_digit s) s

-- the width, at most 4,096, and what follows it
abbrev pub width_in : List ℕ → Reading ℕ
width_in s = if nat_lt 4096 (number_of s) then Err (WidthTooLarge, s) else Ok (number_of s, after_number s)

-- a `=` (61) or a `#` (35)
abbrev pub role : List ℕ → Role × List ℕ
role s = if begins 61 s then (First, drop 1 s) else if begins 35 s then (Count, drop 1 s) else (Element, s)

-- ---- the name and the formatter

-- the tag of a name that stands at a place
abbrev pub named_tag : List ℕ → List ℕ → Result Tag Faulty
named_tag name place = if length name == 0 then Err (EmptyTag, place) else ok_or (tag_of name) (UnknownTag, place)

-- the names of the formatters
unfoldable pub formatter_table : List (List ℕ × Show)
formatter_table =
    (codes "string", Plain) ∷ (codes "hex", Hex) ∷ (codes "octal", Octal) ∷ (codes "perms", Perms)
    ∷ (codes "depflags", Depflags) ∷ (codes "fflags", Fflags) ∷ (codes "fstate", Fstate) ∷ (codes "day", Day)
    ∷ (codes "date", Date) ∷ (codes "shescape", Shescape) ∷ (codes "base64", Base64)
    ∷ (codes "arraysize", Arraysize) ∷ []

-- the name up to the first colon (58), and what stands after that
abbrev pub name_and_show : List ℕ → List ℕ × Option (List ℕ)
name_and_show inside = option_map_or (λ cut. (cut.0, Some cut.1)) (split_once 58 inside) (inside, None)

-- the formatter of a name that stands so far after a place, where there is one
abbrev pub formatter : Option (List ℕ) → ℕ → List ℕ → Result Show Faulty
formatter None far place = Ok Plain
formatter (Some name) far place =
    ok_or (lookup (bytes_eq name) formatter_table) (UnknownFormatter, drop far place)

-- what stands between the braces, and begins at a place
abbrev pub tag_inside : Bool → ℕ → Role → List ℕ → List ℕ → Result TagPart Faulty
tag_inside left size r inside place = do
  tag ← named_tag (name_and_show inside).0 place
  f ← formatter (name_and_show inside).1 (length (name_and_show inside).0 + 1) place
  Ok (record { tag = tag; role = r; left = left; width = size; show = f })

-- ---- the whole tag, in the order of reading: `-` (45), the width, `{` (123), `=` or `#`, and up to `}`
-- (125) name and formatter

-- the tag of a format after its percent, and what follows its `}`
unfoldable pub tag_part : List ℕ → Reading TagPart
tag_part s = let signed : Bool × List ℕ = if begins 45 s then (true, drop 1 s) else (false, s) in (do
  size ← width_in signed.1
  inner ← if begins 123 size.1 then Ok (role (drop 1 size.1)) else Err (MissingOpen, size.1)
  cut ← ok_or (split_once 125 inner.1) (MissingClose, [])
  part ← tag_inside signed.0 size.0 inner.0 cut.0 inner.1
  Ok (part, cut.1))
