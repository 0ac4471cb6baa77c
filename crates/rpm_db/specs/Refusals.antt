-- Which cause refuses a change: the first that holds, in this order.
use Rattle.std.specs.Prelude.{◌≡◌, ◌≢◌, ℕ, ◌<◌, ◌≤◌, ◌^◌, Bool, List, length, true, false, Result, Ok, Err}
use Rattle.rpm_outside.specs.Files.{Units, unit_at}
use Rattle.rpm_header.specs.Header.{Header, header}
use Rattle.rpm_pkgdb.specs.Planned.{IsStoreFull}
use Rattle.rpm_hindex.specs.Refusals as hindex
use Rattle.rpm_hindex.specs.Rows.{Row}
use Rattle.rpm_hindex.specs.State.{buckets_of}
use Rattle.rpm_hindex.specs.declared.faults.PrepareFault.TheVariants as prepare
use Rattle.rpm_db.specs.declared.change_fault.ChangeFault.{ChangeFault}
use Rattle.rpm_db.specs.declared.change_fault.ChangeFault.TheVariants.{BadHeader, NoSuch, NumbersSpent, GenerationSpent}
use Rattle.rpm_db.specs.declared.change_fault.ChangeFault.TheVariants.{StoreFull, IndexFull, BadIndex, Stopped}
use Rattle.rpm_db.specs.declared.change_fault.ChangeFault.TheVariants.{DiskFault, NoMemory}
use Rattle.rpm_db.specs.Database.{Database, generation_of, holds, next_package_number, store_of}
use Rattle.rpm_db.specs.Lawful.{IsWholeIndex}

-- after the header and the number: the generation, and then the room in the store; the index comes last
abbrev pub LaterCause : ℕ → Type 0 → ChangeFault → Type 0
LaterCause generation full GenerationSpent = generation ≡ 4294967295
LaterCause generation full StoreFull = (generation ≢ 4294967295) × full
LaterCause generation full (IndexFull needed) = (generation ≢ 4294967295) × ¬ full
LaterCause generation full (BadIndex unit) = (generation ≢ 4294967295) × ¬ full
LaterCause generation full DiskFault = generation ≢ 4294967295
LaterCause generation full NoMemory = generation ≢ 4294967295
LaterCause generation full _ = ⊥

-- a change that was made had a generation left and room
abbrev pub LaterIs : {A : Type 0} → ℕ → Type 0 → Result A ChangeFault → Type 0
LaterIs generation full (Ok done) = (generation ≢ 4294967295) × ¬ full
LaterIs generation full (Err fault) = LaterCause generation full fault

-- a header goes under a new number or under one that is there, or is refused for this
pub record PutsHeader {A : Type 0} (db : Database) (is_new : Bool) (bytes : List ℕ)
    (result : Result A ChangeFault) : Type 0 where
  pub going : db.stopped ≡ false
  pub own : Header
  pub read : header bytes ≡ Ok own
  pub later : LaterIs (generation_of db) (IsStoreFull (store_of db) is_new (length own.blob)) result

-- a value that isn't stopped, and bytes that are a header
pub record IsRead (db : Database) (bytes : List ℕ) : Type 0 where
  pub going : db.stopped ≡ false
  pub own : Header
  pub read : header bytes ≡ Ok own

-- adding
abbrev pub AddAnswer : {A : Type 0} → Database → List ℕ → Result A ChangeFault → Type 0
AddAnswer db bytes (Err Stopped) = db.stopped ≡ true
AddAnswer db bytes (Err (BadHeader fault)) = (db.stopped ≡ false) × (header bytes ≡ Err fault)
AddAnswer db bytes (Err NumbersSpent) = IsRead db bytes × (next_package_number db ≡ 4294967295)
AddAnswer db bytes result = (next_package_number db ≢ 4294967295) × PutsHeader db true bytes result

-- putting
abbrev pub PutAnswer : {A : Type 0} → Database → ℕ → List ℕ → Result A ChangeFault → Type 0
PutAnswer db n bytes (Err Stopped) = db.stopped ≡ true
PutAnswer db n bytes (Err (BadHeader fault)) = (db.stopped ≡ false) × (header bytes ≡ Err fault)
PutAnswer db n bytes (Err NoSuch) = IsRead db bytes × (holds n db ≡ false)
PutAnswer db n bytes result = (holds n db ≡ true) × PutsHeader db false bytes result

-- erasing
abbrev pub EraseCause : Database → ℕ → ChangeFault → Type 0
EraseCause db n Stopped = db.stopped ≡ true
EraseCause db n NoSuch = (db.stopped ≡ false) × (holds n db ≡ false)
EraseCause db n fault = (db.stopped ≡ false) × (holds n db ≡ true) × LaterCause (generation_of db) ⊥ fault

-- an erasure that was made had its package there; one that was refused has its cause
abbrev pub EraseAnswer : {A : Type 0} → Database → ℕ → Result A ChangeFault → Type 0
EraseAnswer db n (Ok done) = (db.stopped ≡ false) × (holds n db ≡ true) × LaterIs (generation_of db) ⊥ (Ok done)
EraseAnswer db n (Err fault) = EraseCause db n fault

-- ---- the index

-- an index is full exactly where so many units are too many, and isn't bad where it holds the rows of the packages
abbrev pub FullCause : ℕ → ChangeFault → Type 0
FullCause needed (IndexFull told) = (2 ^ 28 < needed) × (told ≡ needed)
FullCause needed (BadIndex unit) = ⊥
FullCause needed _ = Unit {0}

-- a change that was made fits the index, and IndexFull tells units that don't
abbrev pub FullIndexIs : {A : Type 0} → ℕ → Result A ChangeFault → Type 0
FullIndexIs needed (Ok done) = needed ≤ 2 ^ 28
FullIndexIs needed (Err fault) = FullCause needed fault

-- a fault that names a unit names the fault of a chain, or unit 1, where these rows, which go, are more than that
-- counts
abbrev pub BadCause : List Row → Units → ChangeFault → Type 0
BadCause drops idx (BadIndex unit) = hindex.IsBadFor drops (buckets_of (unit_at idx 0)) idx (prepare.BadIndex unit)
BadCause drops idx _ = Unit {0}

-- BadIndex is answered only for a fault of the index, met by a change that drops these rows
abbrev pub BadIndexIs : {A : Type 0} → List Row → Units → Result A ChangeFault → Type 0
BadIndexIs drops idx (Ok done) = Unit {0}
BadIndexIs drops idx (Err fault) = BadCause drops idx fault

-- a change of an index that is well formed as a whole leaves one, and isn't refused for it
abbrev pub WholeCause : ChangeFault → Type 0
WholeCause (BadIndex unit) = ⊥
WholeCause _ = Unit {0}

-- an index that was whole is whole after a change that was made
abbrev pub StaysWhole : {A : Type 0} → Units → Result A ChangeFault → Type 0
StaysWhole idx (Ok done) = IsWholeIndex idx
StaysWhole idx (Err fault) = WholeCause fault

-- the files stay
abbrev pub IsRefusal : ChangeFault → Type 0
IsRefusal DiskFault = ⊥
IsRefusal _ = Unit {0}

-- the value is stopped
abbrev pub is_stopping : ChangeFault → Bool
is_stopping DiskFault = true
is_stopping _ = false

-- a fault of reading a package
abbrev pub IsOfReading : ChangeFault → Type 0
IsOfReading DiskFault = Unit {0}
IsOfReading NoMemory = Unit {0}
IsOfReading _ = ⊥

-- a fault of taking a package out of the store alone
abbrev pub IsOfStoreErasing : ChangeFault → Type 0
IsOfStoreErasing NoSuch = Unit {0}
IsOfStoreErasing GenerationSpent = Unit {0}
IsOfStoreErasing DiskFault = Unit {0}
IsOfStoreErasing NoMemory = Unit {0}
IsOfStoreErasing _ = ⊥

-- a fault of working out a change of the index
abbrev pub IsOfIndex : ChangeFault → Type 0
IsOfIndex (IndexFull needed) = Unit {0}
IsOfIndex (BadIndex unit) = Unit {0}
IsOfIndex DiskFault = Unit {0}
IsOfIndex NoMemory = Unit {0}
IsOfIndex _ = ⊥

-- a fault of the store, before anything is written
abbrev pub IsOfRoom : ChangeFault → Type 0
IsOfRoom GenerationSpent = Unit {0}
IsOfRoom StoreFull = Unit {0}
IsOfRoom NoMemory = Unit {0}
IsOfRoom _ = ⊥
