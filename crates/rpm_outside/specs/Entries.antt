-- What these entries of a log write.
use Rattle.std.specs.Prelude.{◌≡◌, ◌⊎◌, ℕ, ◌+◌, ◌<◌, ◌≤◌, max, List, [], ◌∷◌, length}
use Rattle.std.proofs.Common.{⊎_elim}
use Rattle.rpm_outside.specs.declared.disk.File.{File}
use Rattle.rpm_outside.specs.Files.{cases_file, Files, file_of, unit_at}
use Rattle.rpm_outside.specs.Logs.{Entry}

-- an entry writes this unit of this file
pub record HasUnit (entry : Entry) (file : File) (i : ℕ) : Type 0 where
  pub there : entry.file ≡ file
  pub from : entry.first ≤ i
  pub before : i < entry.first + length entry.units

-- one of these entries does
abbrev pub Covers : List Entry → File → ℕ → Type 0
Covers [] file i = ⊥
Covers (entry ∷ entries) file i = HasUnit entry file i ⊎ Covers entries file i

-- how long an entry leaves a file of this length
abbrev pub end_in : File → Entry → ℕ → ℕ
end_in file entry long =
    ⊎_elim (λ same. max long (entry.first + length entry.units)) (λ differ. long) (cases_file file entry.file)

-- the length of a file after a list of entries
abbrev pub ends_in : File → List Entry → ℕ → ℕ
ends_in file [] long = long
ends_in file (entry ∷ entries) long = ends_in file entries (end_in file entry long)

-- files that differ from the old ones where these entries write alone, and are no longer than these make them
pub record Within (entries : List Entry) (old new : Files) : Type 0 where
  pub each : (file : File) (i : ℕ) → (unit_at (file_of file new) i ≡ unit_at (file_of file old) i)
      ⊎ Covers entries file i
  pub no_shorter : (file : File) → length (file_of file old) ≤ length (file_of file new)
  pub no_longer : (file : File) → length (file_of file new) ≤ ends_in file entries (length (file_of file old))
