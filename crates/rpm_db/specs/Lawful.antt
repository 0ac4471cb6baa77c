-- Which files are a database that the calls may begin with, and that they leave.
use Rattle.std.specs.Prelude.{◌≡◌, ◌⊎◌, ◌≤◌, ℕ, Bool, List, true, Ok}
use Rattle.std.specs.Ordering.{nat_cmp}
use Rattle.std.specs.FinMap.{FinMap}
use Rattle.rpm_outside.specs.declared.disk.Disk as disk
use Rattle.rpm_outside.specs.Frame.{CrashLeaves, images}
use Rattle.rpm_outside.specs.Files.{Units, Files, unit_at, blank}
use Rattle.rpm_pkgdb.specs.Store.{Store, store, blank_store}
use Rattle.rpm_hindex.specs.Index.{records}
use Rattle.rpm_hindex.specs.Rows.{Row, SameRows}
use Rattle.rpm_hindex.specs.State.{opened_state, sealed_generation, buckets_of, is_current}
use Rattle.rpm_hindex.specs.Whole.{IsWellFormed}
use Rattle.rpm_db.specs.State.{Package, packages}
use Rattle.rpm_db.specs.Rows.{rows}

-- an index that is well formed as a whole, whatever rows it holds
abbrev pub IsWholeIndex : Units → Type 0
IsWholeIndex idx = IsWellFormed (buckets_of (unit_at idx 0)) idx

-- an index that is well formed and holds the rows of these packages, each as often
pub record HasRows (packages : FinMap nat_cmp Package) (idx : Units) : Type 0 where
  pub whole : IsWholeIndex idx
  pub same : SameRows (rows packages) (records (buckets_of (unit_at idx 0)) idx)

-- an index is sealed at this generation, and its first two units are in order
abbrev pub is_current_at : ℕ → Units → Bool
is_current_at generation idx = is_current generation (opened_state idx)

-- where the index is current it holds the rows of the packages, and it isn't sealed at a later generation
pub record Agrees (value : Store) (pkg idx : Units) : Type 0 where
  pub rows_are : is_current_at value.generation idx ≡ true → HasRows (packages pkg value) idx
  pub no_later : sealed_generation (unit_at idx 0) ≤ value.generation

-- no database was made yet, or the store isn't damaged and the index agrees with it
abbrev pub IsLawful : Units → Units → Type 0
IsLawful pkg idx = (store pkg ≡ Ok blank_store) ⊎ ((value : Store) × (store pkg ≡ Ok value) × Agrees value pkg idx)

-- each of these images is
abbrev pub AreLawful : (Files → Type 0) → Type 0
AreLawful images = (image : Files) → images image → IsLawful image.pkg image.idx

-- ---- an index that is rebuilt

-- an index that is sealed at the generation of this Packages.db and holds the rows of its packages
pub record IsIndexOf (pkg idx : Units) : Type 0 where
  pub value : Store
  pub undamaged : store pkg ≡ Ok value
  pub sealed_at : sealed_generation (unit_at idx 0) ≡ value.generation
  pub rows_are : HasRows (packages pkg value) idx

-- a list of rows is that of this Packages.db, which has this generation
pub record IsOfRows (generation : ℕ) (all : List Row) (pkg : Units) : Type 0 where
  pub value : Store
  pub undamaged : store pkg ≡ Ok value
  pub generation_is : value.generation ≡ generation
  pub rows_are : all ≡ rows (packages pkg value)

-- an index that is written and not sealed yet: it holds the rows of this Packages.db, which has this generation
pub record IsUnsealed (generation buckets : ℕ) (pkg idx : Units) : Type 0 where
  pub value : Store
  pub undamaged : store pkg ≡ Ok value
  pub generation_is : value.generation ≡ generation
  pub whole : IsWellFormed buckets idx
  pub same : SameRows (rows (packages pkg value)) (records buckets idx)

-- files of which the index alone may have changed: it is as it was, or void, or that of the Packages.db beside it
pub record Remade (from image : Files) : Type 0 where
  pub pkg : image.pkg ≡ from.pkg
  pub log : image.log ≡ from.log
  pub idx : (image.idx ≡ from.idx) ⊎ ((unit_at image.idx 0 ≡ blank) ⊎ IsIndexOf image.pkg image.idx)

-- a lawful image, with the packages and the log of one of these
pub record IsLawfulStill (images : Files → Type 0) (image : Files) : Type 0 where
  pub from : Files
  pub was : images from
  pub pkg : image.pkg ≡ from.pkg
  pub log : image.log ≡ from.log
  pub lawful : IsLawful image.pkg image.idx

-- a crash at any moment since then leaves such an image, where those at the start are lawful
abbrev pub StaysLawful : {D : Type 0} → disk.Ghosts D → D → D → Type 0
StaysLawful d old new = AreLawful (images d old) → CrashLeaves d old new (IsLawfulStill (images d old))
