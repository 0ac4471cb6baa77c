-- What the elements of an entry keep of it.
use Rattle.std.specs.Prelude.{◌≡◌, ℕ, ◌+◌, ◌^◌, ◌≤◌, ◌<◌, true, List, length, drop, All}
use Rattle.rpm_tags.specs.Value.{file_names}
use Rattle.rpm_tags.specs.inner.Paths.{are_matched}
use Rattle.rpm_header.specs.Header.{max_data, Item, has_numbers, has_texts, IsEntryWhole}

pub record KeepsNumbers (e : Item) : Type 0 where
  pub form : has_numbers e.form ≡ true
  pub whole : IsEntryWhole e
  pub some : 0 < e.count

pub record KeepsTexts (count : ℕ) (e : Item) : Type 0 where
  pub form : has_texts e.form ≡ true
  pub whole : IsEntryWhole e
  pub some : 0 < count
  pub within : count ≤ e.count

-- each name from a place on has an index, and each index a directory
pub record AreLeft (dirs : List (List ℕ)) (indexes : List ℕ) (bases : List (List ℕ)) (place : ℕ) : Type 0 where
  pub matched : are_matched dirs (drop place indexes) bases ≡ true
  pub few : length indexes < 2 ^ 32
  pub whole : place + length bases ≡ length indexes
  pub short : All (λ text. length text ≤ max_data) bases

-- each file has an index, and each index one of the directories that are asked for, which do for all of them
pub record AreAsked (dirs asked : List (List ℕ)) (indexes : List ℕ) (bases : List (List ℕ)) : Type 0 where
  pub all : are_matched dirs indexes bases ≡ true
  pub matched : are_matched asked indexes bases ≡ true
  pub same : file_names asked indexes bases ≡ file_names dirs indexes bases
