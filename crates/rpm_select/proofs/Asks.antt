-- Runs of calls that ask a database for packages.
use Rattle.std.proofs.Common.{◌≡◌, ℕ, ◌+◌, ◌≤◌, Ok, Err, refl, ap, arith}
use Rattle.std.specs.Prelude.{Result}
use Rattle.rpm_outside.specs.declared.disk.Disk as disk
use Rattle.rpm_select.proofs.Vocabulary.{AsksPackages, Database, DiskFault, IsStoreKept, looks_more, looks_then, PickFault, Pkg}
use Rattle.rpm_outside.specs.Frame.{OnlyReads}

-- an answer of this type
abbrev pub failed : (X : Type 0) → PickFault → Result X PickFault
failed X fault = Err fault

fault_in : (X : Type 0) (a b : PickFault) → failed X a ≡ failed X b → a ≡ b
fault_in X a b is = cc

module _ {D : Type 0} (d : disk.Ghosts D) where
  -- an answer after some calls
  pub asks_done : {X : Type 0} (m most : ℕ) (a b : D) (db : Database) (x : X) → m ≤ most → IsStoreKept d b db → OnlyReads d Pkg m a b → d.faults a ≤ d.faults b
      → AsksPackages d most a b db (Ok x)
  asks_done m most a b db x le kept looks later = record {
    kept = kept;
    looks = looks_more d Pkg m most a b le looks;
    cause = record { later = later; rose = λ is. absurd cc };
    unbroken = refl;
  }

  module _ (trans : (a b c : D) → d.follows a b → d.follows b c → d.follows a c) (m n most : ℕ) (a b c : D) (db : Database) (le : m + n ≤ most)
      (before : OnlyReads d Pkg m a b) (later : d.faults a ≤ d.faults b) where
    both : OnlyReads d Pkg n b c → OnlyReads d Pkg most a c
    both looks = looks_then d Pkg trans m n most a b c le before looks

    -- an answer after one more
    pub asks_then : {X Y : Type 0} {r : Result Y PickFault} (x : X) → AsksPackages d n b c db r → AsksPackages d most a c db (Ok x)
    asks_then x last = record {
      kept = last.kept;
      looks = both last.looks;
      cause = record { later = omega (arith, later, last.cause.later); rose = λ is. absurd cc };
      unbroken = refl;
    }

    -- one more that failed
    pub asks_failed : (X Y : Type 0) (fault : PickFault) → AsksPackages d n b c db (failed Y fault) → AsksPackages d most a c db (failed X fault)
    asks_failed X Y fault last = record {
      kept = last.kept;
      looks = both last.looks;
      cause = record {
        later = omega (arith, later, last.cause.later);
        rose = λ is. (let rose = last.cause.rose (ap (failed Y) (fault_in X fault DiskFault is)) in omega (arith, later, rose));
      };
      unbroken = last.unbroken;
    }
