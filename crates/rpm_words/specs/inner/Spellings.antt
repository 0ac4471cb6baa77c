-- The rows of the code's tables of long options.
use Rattle.std.specs.Prelude.{ℕ, List, [], ◌∷◌, map, Option, Some, None, if◌then◌else◌}
use Rattle.std.specs.Str.{bytes_eq}
use Rattle.rpm_words.specs.declared.switch.Spelling.{Spelling}
use Rattle.rpm_words.specs.declared.switch.Switch.{Switch}

-- the spellings of the code as a table
abbrev pub as_spellings : List Spelling → List (List ℕ × Switch)
as_spellings spellings = map (λ (s : Spelling). (s.0.now, s.1)) spellings

-- the option that a table has for a text
unfoldable pub switch_in : List (List ℕ × Switch) → List ℕ → Option Switch
switch_in [] text = None
switch_in (row ∷ rows) text = if bytes_eq text row.0 then Some row.1 else switch_in rows text
