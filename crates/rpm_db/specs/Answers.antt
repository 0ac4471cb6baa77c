-- What the calls that read one package answer.
use Rattle.std.specs.Prelude.{◌≡◌, ◌%◌, List, ℕ, Option, Some, None, Result, Ok, Err, Vec}
use Rattle.std.specs.declared.alloc.Global.{Global}
use Rattle.rpm_pkgdb.specs.declared.blob.GetFault.{GetFault}
use Rattle.rpm_pkgdb.specs.declared.blob.GetFault.TheVariants.{NoSuch, Bad, DiskFault, NoMemory}
use Rattle.rpm_db.specs.declared.verify.Verdict.{Verdict}
use Rattle.rpm_outside.specs.Files.{Units, unit_at}
use Rattle.rpm_hindex.specs.declared.faults.FindFault.{FindFault}
use Rattle.rpm_hindex.specs.Answers.{FindIs}
use Rattle.rpm_hindex.specs.Index.{chain, index_in}
use Rattle.rpm_hindex.specs.Rows.{hash_of}
use Rattle.rpm_hindex.specs.State.{buckets_of}
use Rattle.rpm_db.specs.State as state
use Rattle.rpm_db.specs.State.{Package, Good, package_of}

-- a Good header's own bytes, or why there are none
abbrev pub GetAnswer : Option Package → Result (Vec ℕ Global) GetFault → Type 0
GetAnswer said (Ok v) = said ≡ Some (Good v.items)
GetAnswer said (Err NoSuch) = said ≡ None
GetAnswer said (Err Bad) = said ≡ Some state.Bad
GetAnswer said (Err DiskFault) = Unit {0}
GetAnswer said (Err NoMemory) = Unit {0}

-- bytes that the package is read from, what follows its header among them; Bad is a broken framing alone
abbrev pub ReadAnswer : Option Package → Result (Vec ℕ Global) GetFault → Type 0
ReadAnswer said (Ok v) = said ≡ Some (package_of (Some v.items))
ReadAnswer said (Err fault) = GetAnswer said (Err fault)

-- a verdict of each number that is there
abbrev pub VerifyAnswer : Option Verdict → Result Verdict GetFault → Type 0
VerifyAnswer said (Ok v) = said ≡ Some v
VerifyAnswer said (Err NoSuch) = said ≡ None
VerifyAnswer said (Err Bad) = ⊥
VerifyAnswer said (Err DiskFault) = Unit {0}
VerifyAnswer said (Err NoMemory) = Unit {0}

-- a package's own bytes, or Bad
abbrev pub CutIs : Package → Result (Vec ℕ Global) GetFault → Type 0
CutIs p (Ok v) = p ≡ Good v.items
CutIs p (Err Bad) = p ≡ state.Bad
CutIs p (Err _) = ⊥

-- the chain of a key's bucket
abbrev pub key_chain : ℕ → List ℕ → Units → Result (List ℕ) ℕ
key_chain kind key idx =
    chain (index_in (buckets_of (unit_at idx 0)) idx) (hash_of kind key % buckets_of (unit_at idx 0))

-- what can be found exactly where that chain has no fault
abbrev pub FindAnswer : {A : Type 0} → Result (List ℕ) ℕ → Result A FindFault → Type 0
FindAnswer said found = FindIs (λ places hits. Unit {0}) said found
