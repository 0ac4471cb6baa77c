-- The parts of a text one by one, as the code cuts it.
use Rattle.std.specs.Prelude.{ℕ, ◌+◌, List, [], ◌∷◌, Option, Some, None, Bool, ◌||◌, ◌==◌}
use Rattle.std.specs.Prelude.{if◌then◌else◌, drop, slice_index}
use Rattle.std.specs.Char.{is_ascii_digit}
use Rattle.std.specs.List.{prefix_len, take_while, list_any, before_last, after_last}
use Rattle.rpm_version.specs.Evr.{is_dash}

-- a space or a tab
abbrev pub is_space : ℕ → Bool
is_space b = (b == 32) || (b == 9)

-- the digits that the text begins with, perhaps none, have a colon, 58, after them
unfoldable pub has_epoch : List ℕ → Bool
has_epoch text = slice_index text (prefix_len is_ascii_digit text) == 58

-- the digits before that colon, if it is there
unfoldable pub epoch_of : List ℕ → Option (List ℕ)
epoch_of text = if has_epoch text then Some (take_while is_ascii_digit text) else None

-- what stands after that colon, or the whole text
unfoldable pub behind_epoch : List ℕ → List ℕ
behind_epoch text =
    if has_epoch text then drop (prefix_len is_ascii_digit text + 1) text else text

-- what stands before the last dash
unfoldable pub version_of : List ℕ → List ℕ
version_of text = if list_any is_dash text then before_last is_dash text else text

-- an empty text counts as none
abbrev pub unless_empty : List ℕ → Option (List ℕ)
unless_empty [] = None
unless_empty (b ∷ text) = Some (b ∷ text)

-- what follows the last dash
unfoldable pub release_of : List ℕ → Option (List ℕ)
release_of text = if list_any is_dash text then unless_empty (after_last is_dash text) else None
