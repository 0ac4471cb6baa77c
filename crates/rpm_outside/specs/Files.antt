-- Files of units, and what a write does to one.
use Rattle.std.specs.Prelude.{◌≡◌, ◌<◌, ◌≤◌, ◌⊎◌, ℕ, ◌+◌, ◌-◌, ◌/◌, ◌%◌, ◌^◌, List, [], ◌∷◌, ◌++◌, length, take, drop}
use Rattle.std.specs.Prelude.{replicate, slice_index_or}
use Rattle.std.proofs.Common.{zero, suc, inl, inr, refl}
use Rattle.rpm_outside.specs.declared.disk.File.{File}
use Rattle.rpm_outside.specs.declared.disk.File.TheVariants.{Pkg, Idx, Log}

-- a file is a list of units of 16 bytes
abbrev pub Units : Type 0
Units = List (List ℕ)

-- the three files at one moment
pub record Files : Type 0 where
  pub pkg : Units
  pub idx : Units
  pub log : Units

-- one of the three files
abbrev pub file_of : File → Files → Units
file_of Pkg files = files.pkg
file_of Idx files = files.idx
file_of Log files = files.log

-- the three files with another in the place of one
abbrev pub with_file : File → Units → Files → Files
with_file Pkg units files = record { pkg = units; idx = files.idx; log = files.log }
with_file Idx units files = record { pkg = files.pkg; idx = units; log = files.log }
with_file Log units files = record { pkg = files.pkg; idx = files.idx; log = units }

-- two files are one, or they differ
pub cases_file : (a b : File) → (a ≡ b) ⊎ (a ≡ b → ⊥)
cases_file Pkg Pkg = inl refl
cases_file Pkg Idx = inr (λ (e : Pkg ≡ Idx). cc e)
cases_file Pkg Log = inr (λ (e : Pkg ≡ Log). cc e)
cases_file Idx Pkg = inr (λ (e : Idx ≡ Pkg). cc e)
cases_file Idx Idx = inl refl
cases_file Idx Log = inr (λ (e : Idx ≡ Log). cc e)
cases_file Log Pkg = inr (λ (e : Log ≡ Pkg). cc e)
cases_file Log Idx = inr (λ (e : Log ≡ Idx). cc e)
cases_file Log Log = inl refl

-- a unit of zeros
unfoldable pub blank : List ℕ
blank = replicate 16 0

-- the contents of a unit, which are zeros past the end
abbrev pub unit_at : Units → ℕ → List ℕ
unit_at units i = slice_index_or units i blank

-- the first n units of these bytes
abbrev pub cut_up : ℕ → List ℕ → Units
cut_up zero bytes = []
cut_up (suc n) bytes = take 16 bytes ∷ cut_up n (drop 16 bytes)

-- the whole units of these bytes
abbrev pub units_of : List ℕ → Units
units_of bytes = cut_up (length bytes / 16) bytes

-- the bytes of these units
abbrev pub bytes_of : Units → List ℕ
bytes_of [] = []
bytes_of (unit ∷ units) = unit ++ bytes_of units

-- each of these units has 16 bytes
abbrev pub AreWhole : Units → Type 0
AreWhole units = (k : ℕ) → length (unit_at units k) ≡ 16

-- the file with these units from this one on; units between its end and them are zeros
unfoldable pub with_units : ℕ → Units → Units → Units
with_units at units file = take at file ++ replicate (at - length file) blank ++ units ++ drop (at + length units) file

-- bytes that one write takes from this unit on: whole units, one at least, none past the greatest size of a file
pub record FitsAt (unit : ℕ) (bytes : List ℕ) : Type 0 where
  pub some : 0 < length bytes
  pub whole : length bytes % 16 ≡ 0
  pub room : unit + length bytes / 16 ≤ 2 ^ 28
