-- A text that is printed, by what it is made of.
use Rattle.std.specs.Prelude.{ℕ, List}
use Rattle.std.specs.List.{concat}
use Rattle.rpm_qfeval.specs.declared.shown.Shown.{Shown}
use Rattle.rpm_qfeval.specs.declared.shown.Shown.TheVariants as shown
use Rattle.rpm_qfeval.specs.Texts.{in_quotes, quoted_text, hex_text, base64_text}

abbrev pub piece_text : Shown → List ℕ
piece_text (shown.Plain bytes) = bytes.now
piece_text (shown.Joined text) = concat text.now
piece_text (shown.Quoted text) = quoted_text (concat text.now)
piece_text (shown.QuotedBytes bytes) = quoted_text bytes.now
piece_text (shown.Hex bytes) = hex_text bytes.now
piece_text (shown.QuotedHex bytes) = in_quotes (hex_text bytes.now)
piece_text (shown.Base64 bytes) = base64_text bytes.now
