-- What a write leaves of Hindex.db, and what a crash may leave beside it.
use Rattle.std.specs.Prelude.{◌≡◌, ◌⊎◌, ◌≤◌, ℕ, List, [], ◌∷◌, length, IsTrue}
use Rattle.rpm_outside.specs.declared.disk.Disk as disk
use Rattle.rpm_outside.specs.declared.disk.File.TheVariants.{Idx}
use Rattle.rpm_outside.specs.Files.{Units, unit_at, blank, with_units}
use Rattle.rpm_outside.specs.Frame.{IsDurable}
use Rattle.rpm_hindex.specs.Index.{records}
use Rattle.rpm_hindex.specs.State.{IndexState, KeepsIndexValue, sealed_generation, buckets_of}
use Rattle.rpm_hindex.specs.Whole.{IsWellFormed}

-- unit 0 is that of the file before
abbrev pub SameSeal : Units → Units → Type 0
SameSeal from image = unit_at image 0 ≡ unit_at from 0

-- unit 0 is zeros, or the file is that before
abbrev pub VoidOrSame : Units → Units → Type 0
VoidOrSame from image = (unit_at image 0 ≡ blank) ⊎ (image ≡ from)

-- unit 0 is zeros, or that of the file before
abbrev pub VoidOrSameSeal : Units → Units → Type 0
VoidOrSameSeal from image = (unit_at image 0 ≡ blank) ⊎ (unit_at image 0 ≡ unit_at from 0)

-- the file before, or the same with this unit in front, where it has a unit 0
abbrev pub SealedOrSame : List ℕ → Units → Units → Type 0
SealedOrSame unit from image = 1 ≤ length from → (image ≡ from) ⊎ (image ≡ with_units 0 (unit ∷ []) from)

-- a file that is sealed at this generation, and well formed with the same records
pub record IsSealed (generation buckets : ℕ) (from image : Units) : Type 0 where
  pub generation_is : sealed_generation (unit_at image 0) ≡ generation
  pub buckets_are : buckets_of (unit_at image 0) ≡ buckets
  pub whole : IsWellFormed buckets image
  pub records_are : records buckets image ≡ records buckets from

module _ {D : Type 0} (d : disk.Ghosts D) where
  -- the file is this one and durable, and the value keeps what it says
  pub record IsDurableAs (at : D) (state : IndexState) (file : Units) : Type 0 where
    pub kept : IsTrue d.tells → KeepsIndexValue (d.files at).idx state
    pub written : IsTrue d.tells → (d.files at).idx ≡ file
    pub durable : IsTrue d.tells → IsDurable d Idx at
