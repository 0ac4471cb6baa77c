-- The names that are left of what is needed or given.
use Rattle.std.specs.Prelude.{ℕ, ◌+◌, ◌^◌, ◌<◌, List, length, Option}
use Rattle.rpm_tags.specs.Wanted.{list_or_empty}

-- a place for each name that is left
abbrev pub NamesHavePlaces : Option (List (List ℕ)) → ℕ → Type 0
NamesHavePlaces names place = place + length (list_or_empty names) < 2 ^ 32
