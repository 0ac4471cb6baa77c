-- What the formatters of texts and blobs show.
use Rattle.std.specs.Prelude.{ℕ, ◌==◌, List, [], ◌∷◌, ◌++◌, codes, map, if◌then◌else◌}
use Rattle.std.specs.List.{concat}
use Rattle.hex.specs.Hex.{encode_lower}
use Rattle.base64.specs.GeneralPurpose.{encode_of}
use Rattle.base64.specs.Engines.{standard}

-- a byte is written like this within a shell's quotes: a quote ends the quoted text, stands after a backslash, and
-- the text goes on
abbrev pub escaped_byte : ℕ → List ℕ
escaped_byte byte = if byte == 39 then codes "'\\''" else byte ∷ []

-- a text with each of its quotes escaped
abbrev pub escaped_text : List ℕ → List ℕ
escaped_text text = concat (map escaped_byte text)

-- a text between quotes
abbrev pub in_quotes : List ℕ → List ℕ
in_quotes text = codes "'" ++ text ++ codes "'"

-- a text as a shell reads it again
abbrev pub quoted_text : List ℕ → List ℕ
quoted_text text = in_quotes (escaped_text text)

-- a byte in two digits, with small letters
abbrev pub hex_text : List ℕ → List ℕ
hex_text bytes = encode_lower bytes

-- a text in base64 by the standard alphabet, with padding
abbrev pub base64_text : List ℕ → List ℕ
base64_text bytes = encode_of standard bytes
