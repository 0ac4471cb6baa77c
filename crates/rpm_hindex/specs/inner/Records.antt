-- Records as the code reads them.
use Rattle.std.specs.Prelude.{◌≡◌, ℕ, ◌+◌, ◌%◌, ◌^◌, ◌≤◌, length, IsTrue}
use Rattle.rpm_outside.specs.declared.disk.Disk as disk
use Rattle.rpm_outside.specs.declared.disk.File.TheVariants.{Idx}
use Rattle.rpm_outside.specs.Files.{Units, unit_at}
use Rattle.rpm_hindex.specs.declared.chain.Extent.{Extent}
use Rattle.rpm_outside.specs.Words.{word}
use Rattle.rpm_hindex.specs.Sizes.{first_record}
use Rattle.rpm_hindex.specs.Answers.{ChainCosts}
use Rattle.rpm_hindex.specs.Index.{Index, chain, index_in, units_at}
use Rattle.rpm_hindex.specs.inner.Spots.{PathCosts}

-- the file has so many buckets, and its records end there
pub record HasBuckets (extent : Extent) (file : Units) : Type 0 where
  pub fours : extent.buckets % 4 ≡ 0
  pub used : word 0 (unit_at file 1) ≡ extent.used
  pub some : first_record extent.buckets ≤ extent.used
  pub within : extent.used ≤ length file

module _ {D : Type 0} (d : disk.Ghosts D) where
  -- the file's chains can be read with so many buckets and this end of the records
  pub record CanRead (at : D) (extent : Extent) : Type 0 where
    pub few : extent.buckets ≤ 2 ^ 28
    pub is_open : IsTrue d.tells → HasBuckets extent (d.files at).idx

  -- the index that the file holds with this extent
  abbrev pub index_at : D → Extent → Index
  index_at at extent = index_in extent.buckets (d.files at).idx

  -- a call read the unit of a bucket's word and the records of its chain, where that is well formed, and no more
  abbrev pub ReadsChain : Extent → ℕ → D → D → Type 0
  ReadsChain extent bucket old new = IsTrue d.tells → ChainCosts (chain (index_at old extent) bucket)
      (units_at (unit_at (d.files old).idx)) (d.bytes_read old Idx + 16) (d.bytes_read new Idx)

  -- where records of a bucket lead from a place to another, these are read, and no more
  abbrev pub ReadsPath : Extent → ℕ → ℕ → ℕ → D → D → Type 0
  ReadsPath extent bucket from end old new = IsTrue d.tells
      → PathCosts (index_at old extent) bucket from end (d.bytes_read old Idx) (d.bytes_read new Idx)
