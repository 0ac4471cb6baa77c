-- The paths of files, and their names.
use Rattle.std.specs.Prelude.{ℕ, Bool, List, [], ◌++◌, length, slice_get, unwrap_or, ◌==◌, ◌&&◌, nat_lt}
use Rattle.std.specs.List.{list_all}

-- the text at a place, and the empty one where there is none
abbrev pub text_at : List (List ℕ) → ℕ → List ℕ
text_at ts i = unwrap_or (slice_get ts i) []

-- the directory of a file's index, and its name after it
abbrev pub file_name : List (List ℕ) → ℕ × List ℕ → List ℕ
file_name dirs (index, base) = text_at dirs index ++ base

-- an index for each file, and a directory for each index
abbrev pub are_matched : List (List ℕ) → List ℕ → List (List ℕ) → Bool
are_matched dirs indexes bases =
    length bases == length indexes && list_all (λ index. nat_lt index (length dirs)) indexes

-- a slash, which ends the name of a directory
abbrev pub is_slash : ℕ → Bool
is_slash b = b == 47
