-- The table of the formatters: what each shows of a number, of a text and of a blob. The count is that of the value's
-- elements.
use Rattle.std.specs.Prelude.{ℕ, ◌==◌, false, List, codes, decimal, slice_get, length, Option, Some, None}
use Rattle.std.specs.Prelude.{if◌then◌else◌}
use Rattle.std.specs.Option.{option_map}
use Rattle.std.specs.Fmt.{digits}
use Rattle.rpm_tags.specs.Value.{Elements, NumberList, TextList, OneBlob}
use Rattle.rpm_qfparse.specs.declared.tree.Show.{Show}
use Rattle.rpm_qfparse.specs.declared.tree.Show.TheVariants as show
use Rattle.rpm_qfeval.specs.Dates as dates
use Rattle.rpm_qfeval.specs.Numbers.{bit_letters, depflags, fflags, fstate, perms}
use Rattle.rpm_qfeval.specs.Texts.{quoted_text, in_quotes, hex_text, base64_text}

-- what a formatter shows of a number, of a value of so many
abbrev pub number_text : Show → ℕ → ℕ → List ℕ
number_text show.Plain count n = decimal n
number_text show.Hex count n = digits 16 false n
number_text show.Octal count n = digits 8 false n
number_text show.Perms count n = perms n
number_text show.Depflags count n = bit_letters depflags n
number_text show.Fflags count n = bit_letters fflags n
number_text show.Fstate count n = fstate n
number_text show.Day count n = dates.day n
number_text show.Date count n = dates.date n
number_text show.Shescape count n = decimal n
number_text show.Base64 count n = codes "(not a blob)"
number_text show.Arraysize count n = decimal count

-- what a formatter shows of a text, of a value of so many
abbrev pub text_text : Show → ℕ → List ℕ → List ℕ
text_text show.Plain count text = text
text_text show.Shescape count text = quoted_text text
text_text show.Base64 count text = codes "(not a blob)"
text_text show.Arraysize count text = decimal count
text_text _ count text = codes "(not a number)"

-- what a formatter shows of a blob
abbrev pub blob_text : Show → List ℕ → List ℕ
blob_text show.Plain bytes = hex_text bytes
blob_text show.Shescape bytes = in_quotes (hex_text bytes)
blob_text show.Base64 bytes = base64_text bytes
blob_text show.Arraysize bytes = codes "1"
blob_text _ bytes = codes "(not a number)"

-- an element of a value, where it has one at that place
abbrev pub shown_element : Show → Elements → ℕ → Option (List ℕ)
shown_element f (NumberList ns) i = option_map (number_text f (length ns)) (slice_get ns i)
shown_element f (TextList ts) i = option_map (text_text f (length ts)) (slice_get ts i)
shown_element f (OneBlob bytes) i = if i == 0 then Some (blob_text f bytes) else None

-- what stands for an element that isn't there
abbrev pub or_none : Option (List ℕ) → List ℕ
or_none None = codes "(none)"
or_none (Some text) = text
