-- The folder of the database, one more word at a time.
use Rattle.std.specs.Prelude.{◌≡◌, ℕ, ◌+◌, ◌<◌, List, length, drop}
use Rattle.std.specs.List.{position_or_len}
use Rattle.rpm_words.specs.declared.switch.Switch.TheVariants.{Folder}
use Rattle.rpm_words.specs.declared.purpose.Purpose.{Purpose}
use Rattle.rpm_words.specs.declared.purpose.Purpose.TheVariants.{Whole, Inline, Awaits, Value}
use Rattle.rpm_words.specs.Purpose.{is_equals}
use Rattle.rpm_words.specs.Place.{own_place}

-- a value in the option's own word begins after the first `=`
pub record IsCutAtEquals (text : List ℕ) (from : ℕ) : Type 0 where
  pub within : position_or_len is_equals text < length text
  pub behind : from ≡ position_or_len is_equals text + 1

-- a value that stands in a word begins within it
abbrev pub IsSpelled : List ℕ → Purpose → Type 0
IsSpelled text (Inline switch from) = IsCutAtEquals text from
IsSpelled text others = Unit {0}

-- the folder after a word, where it was `before` in front of it
abbrev pub folder_behind : Purpose → List ℕ → List ℕ → List ℕ
folder_behind (Whole Folder) text before = own_place
folder_behind (Awaits Folder) text before = own_place
folder_behind (Inline Folder from) text before = drop from text
folder_behind (Value Folder) text before = text
folder_behind others text before = before
