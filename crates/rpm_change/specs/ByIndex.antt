-- What is said of the index only where it is lawful, beside what is said in every case.
use Rattle.std.specs.Prelude.{Bool, true, false}

-- a claim that speaks of the index where its flag is set: without the index it holds always, and with it where this
-- does
pub record ByIndex (Lawful : Type 0) (Claim : Bool → Type 0) : Type 0 where
  pub always : Claim false
  pub indexed : Lawful → Claim true
