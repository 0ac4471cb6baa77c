-- What looking for a row in its bucket's chain finds.
use Rattle.std.specs.Prelude.{◌≡◌, ℕ, List, Bool, Option, IsTrue}
use Rattle.rpm_outside.specs.declared.disk.Disk as disk
use Rattle.rpm_outside.specs.Files.{unit_at}
use Rattle.rpm_hindex.specs.declared.chain.Extent.{Extent}
use Rattle.rpm_hindex.specs.declared.row_search.Found.{Found}
use Rattle.rpm_hindex.specs.declared.spots.Spot.{Spot}
use Rattle.rpm_hindex.specs.Rows.{Row}
use Rattle.rpm_hindex.specs.laws.Parts.{bucket_unit}
use Rattle.rpm_hindex.specs.inner.Records.{index_at}
use Rattle.rpm_hindex.specs.inner.Spots.{IsRowFound, IsFoundFrom, IsLinked, IsPath, IsSoundSpot, IsWithin}

module _ {D : Type 0} (d : disk.Ghosts D) where
  -- the spot of a row among the records of a bucket from a place to another, or that there is none
  pub record FindsFrom (at : D) (extent : Extent) (bucket from end : ℕ) (kept : ℕ → Bool) (row : Row)
      (spot : Option Spot) : Type 0 where
    pub within : IsWithin extent.used spot
    pub linked : IsLinked extent.buckets extent.used spot
    pub sound : IsTrue d.tells → IsSoundSpot (index_at d at extent) bucket spot
    pub found : IsTrue d.tells → (front : List ℕ) → IsPath (index_at d at extent) bucket from front end
        → IsFoundFrom (index_at d at extent) bucket from end kept row spot

  -- the spot of a row in a bucket's chain, or that there is none, and the unit of the bucket's word
  pub record FindsRow (at : D) (extent : Extent) (bucket : ℕ) (kept : ℕ → Bool) (row : Row) (f : Found)
      : Type 0 where
    pub words : IsTrue d.tells → f.words ≡ unit_at (d.files at).idx (bucket_unit bucket)
    pub within : IsWithin extent.used f.spot
    pub linked : IsLinked extent.buckets extent.used f.spot
    pub sound : IsTrue d.tells → IsSoundSpot (index_at d at extent) bucket f.spot
    pub found : IsTrue d.tells → IsRowFound (index_at d at extent) bucket kept row f.spot
