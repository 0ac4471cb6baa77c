-- A text in parts.
use Rattle.std.specs.Prelude.{◌≡◌, ℕ, ◌≤◌, ◌*◌, List, drop, take, map, length, All}
use Rattle.std.specs.List.{concat}
use Rattle.rpm_header.specs.Header.{max_data}
use Rattle.rpm_tags.specs.declared.digits.Digits.{Digits}
use Rattle.rpm_tags.specs.declared.joined.TextPart.{TextPart}
use Rattle.rpm_tags.specs.declared.joined.TextPart.TheVariants as part

abbrev pub digits_of : Digits → List ℕ
digits_of d = drop d.start d.bytes

abbrev pub bytes_of_parts : TextPart → List ℕ
bytes_of_parts (part.Text text) = text.now
bytes_of_parts (part.Number digits) = digits_of digits

-- the digits of a number lie within their bytes
abbrev pub IsPart : TextPart → Type 0
IsPart (part.Text text) = Unit {0}
IsPart (part.Number digits) = digits.start ≤ 20

-- a count of parts have these bytes
abbrev pub parts_of : ℕ → List TextPart → List (List ℕ)
parts_of count parts = take count (map bytes_of_parts parts)

pub record IsInParts (count len : ℕ) (parts : List TextPart) : Type 0 where
  pub nine : length parts ≡ 9
  pub fit : All IsPart parts
  pub room : count ≤ 9
  pub total : len ≡ length (concat (parts_of count parts))
  pub short : len ≤ count * max_data
