-- Reads that go on until enough bytes have come.
use Rattle.std.specs.Prelude.{◌≡◌, ℕ, ◌<◌, List, [], ◌++◌, length, take, Option}
use Rattle.rpm_file.specs.declared.fault.ListFault.{ListFault}
use Rattle.rpm_file.specs.declared.fault.ListFault.TheVariants as fault
use Rattle.rpm_outside.specs.Browses.{bytes_left, Takes}

-- what comes from elsewhere than the bytes
abbrev pub IsOutsideList : ListFault → Type 0
IsOutsideList fault.ReadFault = Unit {0}
IsOutsideList fault.NoMemory = Unit {0}
IsOutsideList _ = ⊥

-- a buffer's front got so many bytes, and fewer than it has only where nothing is left
pub record Fills (old new : Option (List ℕ)) (count : ℕ) (into : List ℕ) : Type 0 where
  pub front : Takes old new (take count into)
  pub ended : count < length into → bytes_left new ≡ []

-- the bytes that came stand after those that were there
pub record Extends (old new : Option (List ℕ)) (before now : List ℕ) : Type 0 where
  pub more : List ℕ
  pub behind : now ≡ before ++ more
  pub front : Takes old new more

-- a row got more bytes of an item, and fewer than so many in all only where nothing is left
pub record Appends (old new : Option (List ℕ)) (before : List ℕ) (size : ℕ) (now : List ℕ) : Type 0 where
  pub extends : Extends old new before now
  pub ended : length now < size → bytes_left new ≡ []
