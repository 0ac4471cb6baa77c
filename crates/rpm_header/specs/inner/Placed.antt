-- What is kept of texts to find each by its place.
use Rattle.std.specs.Prelude.{◌≡◌, ℕ, List, true}
use Rattle.rpm_header.specs.Bytes.{are_ended}
use Rattle.rpm_header.specs.inner.Zeros.{AreCounted}

-- a count of texts have their zero bytes, and the zeros in front of each stride are known
pub record AreTextsPlaced (count : ℕ) (bytes : List ℕ) (stride : ℕ) (sums : List ℕ) : Type 0 where
  pub ended : are_ended count bytes ≡ true
  pub counted : AreCounted bytes stride sums
