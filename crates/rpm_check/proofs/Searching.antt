-- What is left of a search over what is provided under a name.
use Rattle.std.proofs.Common.{◌≡◌, ℕ, ◌==◌, ◌||◌, List, Bool}
use Rattle.std.specs.Prelude.{◌&&◌}
use Rattle.rpm_check.proofs.Vocabulary.{hits, is_in, IsSorted, list_any, Need, Offer, offer_in, offer_order}

-- the offers that are left stand in order, and one of them passes a test where one of all does
pub record LeavesOf (p : Offer → Bool) (offers rest : List Offer) : Type 0 where
  pub sorted : IsSorted offer_order rest
  pub same : list_any p offers ≡ list_any p rest

-- an offer is of a number's package, and meets a requirement
abbrev pub is_giver : Need → ℕ → Offer → Bool
is_giver need n o = (o.number == n) && hits need (offer_in o)

-- a number is found, or is that of an offer that is left, where it is that of one of all
pub record LeavesNumbers (need : Need) (offers rest : List Offer) (found : List ℕ) : Type 0 where
  pub sorted : IsSorted offer_order rest
  pub same : (n : ℕ) → list_any (is_giver need n) offers ≡ (is_in n found || list_any (is_giver need n) rest)
