-- What a reader of directories keeps.
use Rattle.std.specs.Prelude.{◌≡◌, ℕ, ◌≤◌, ◌<◌, ◌^◌, List, length, drop, Option, Some, IfSome, slice_get, All}
use Rattle.rpm_header.specs.Header.{max_data}
use Rattle.rpm_tags.specs.declared.dirs.ReadDirectory.{ReadDirectory}

-- the directory of its index
abbrev pub IsDirectoryRead : List (List ℕ) → ReadDirectory → Type 0
IsDirectoryRead dirs e = (slice_get dirs e.index ≡ Some e.dir.now) × (length e.dir.now ≤ max_data)

pub record IsReader (dirs ahead : List (List ℕ)) (passed : ℕ) (recent : List ReadDirectory)
    (places : Option (List (List ℕ))) : Type 0 where
  pub left : ahead ≡ drop passed dirs
  pub within : passed ≤ length dirs
  pub few : length dirs < 2 ^ 32
  pub all_short : All (λ text. length text ≤ max_data) dirs
  pub kept : length recent ≡ 16
  pub seen : All (IsDirectoryRead dirs) recent
  pub placed : IfSome places (λ texts. texts ≡ dirs)
