-- What a fault says.
use Rattle.std.proofs.Common.{◌≡◌, ℕ, ◌^◌, ◌≤◌, ◌⊎◌, inl, inr, Bool, List, true, false, Ok, Err, refl, sym, ◌∙◌, subst, arith}
use Rattle.std.specs.Prelude.{IfErr, Result}
use Rattle.rpm_db.proofs.Vocabulary.{AddAnswer, BadCause, BadHeader, BadIndex, BadIndexIs, ChangeFault, Database, DiskFault, EraseCause, EraseAnswer, FullCause, FullIndexIs}
use Rattle.rpm_db.proofs.Vocabulary.{header, holds, IndexFull, is_stopping, IsOfAside, IsOfStoreErasing, IsOfIndex, IsOfReading, IsRefusal, LaterCause, LaterIs}
use Rattle.rpm_db.proofs.Vocabulary.{generation_of, GenerationSpent, IsRead, NoMemory, NoSuch, NumbersSpent, PutAnswer, PutsHeader, PackageChange, Row, Stopped, Units}
use Rattle.rpm_db.specs.declared.planning.PackageChange.TheVariants as request
use Rattle.rpm_db.proofs.Results.{failed}

-- after the generation and the room in the store
pub later_of_index : (generation : ℕ) (full : Type 0) (fault : ChangeFault) → IsOfIndex fault → (generation ≡ 4294967295 → ⊥) → ¬ full
    → LaterCause generation full fault
later_of_index generation full (IndexFull needed) is left fits = (left, fits)
later_of_index generation full (BadIndex unit) is left fits = (left, fits)
later_of_index generation full DiskFault is left fits = left
later_of_index generation full NoMemory is left fits = left
later_of_index generation full others is left fits = absurd is

-- a change that was planned had a generation and room, also where the disk fails then
pub later_written : {A : Type 0} (generation : ℕ) (full : Type 0) (result : Result A ChangeFault) → (generation ≡ 4294967295 → ⊥) × ¬ full
    → IfErr result (λ e. e ≡ DiskFault) → LaterIs generation full result
later_written generation full (Ok done) later kind = later
later_written generation full (Err fault) later kind = subst (LaterCause generation full) (sym kind) later.0

pub full_written : {A : Type 0} (needed : ℕ) (result : Result A ChangeFault) → needed ≤ 2 ^ 28 → IfErr result (λ e. e ≡ DiskFault) → FullIndexIs needed result
full_written needed (Ok done) fits kind = fits
full_written needed (Err fault) fits kind = subst (FullCause needed) (sym kind) tt

-- all but a fault of the disk leave the files
pub is_refusal : (fault : ChangeFault) → (fault ≡ DiskFault → ⊥) → IsRefusal fault
is_refusal DiskFault other = other refl
is_refusal others other = tt

pub stopping_is : (fault : ChangeFault) → is_stopping fault ≡ true → fault ≡ DiskFault
stopping_is DiskFault is = refl
stopping_is others is = absurd cc

pub refusal_goes : (fault : ChangeFault) → IsRefusal fault → is_stopping fault ≡ false
refusal_goes DiskFault is = absurd is
refusal_goes others is = refl

-- a number that is there, of a value that isn't stopped
pub erase_cause : (db : Database) (n : ℕ) (fault : ChangeFault) → db.stopped ≡ false → holds n db ≡ true → LaterCause (generation_of db) ⊥ fault
    → EraseCause db n fault
erase_cause db n (BadHeader f) going here later = absurd later
erase_cause db n NoSuch going here later = absurd later
erase_cause db n NumbersSpent going here later = absurd later
erase_cause db n Stopped going here later = absurd later
erase_cause db n others going here later = (going, here, later)

-- where the index has room for so many units, it is a fault of reading
pub reading_of : (fault : ChangeFault) (needed : ℕ) → IsOfIndex fault → FullCause needed fault → needed ≤ 2 ^ 28 → IsOfReading fault
reading_of (IndexFull told) needed is full fits = omega (arith, full.0, fits)
reading_of (BadIndex unit) needed is full fits = full
reading_of DiskFault needed is full fits = tt
reading_of NoMemory needed is full fits = tt
reading_of others needed is full fits = is

pub erase_of : {A : Type 0} (db : Database) (n : ℕ) (result : Result A ChangeFault) → db.stopped ≡ false → holds n db ≡ true
    → LaterIs (generation_of db) ⊥ result → EraseAnswer db n result
erase_of db n (Ok done) going here later = (going, here, later)
erase_of db n (Err fault) going here later = erase_cause db n fault going here later

-- it isn't refused for its number
pub erase_refused : {A : Type 0} (generation : ℕ) (result : Result A ChangeFault) → LaterIs generation ⊥ result
    → (result ≡ Err NoSuch) ⊎ (result ≡ Err GenerationSpent) → result ≡ Err GenerationSpent
erase_refused generation result later (inl is) = absurd (subst (λ r. LaterIs generation ⊥ r) is later)
erase_refused generation result later (inr is) = is

-- ---- a fault of reading

pub reading_full : (needed : ℕ) (fault : ChangeFault) → IsOfReading fault → FullCause needed fault
reading_full needed DiskFault kind = tt
reading_full needed NoMemory kind = tt
reading_full needed others kind = absurd kind

pub reading_bad : (drops : List Row) (idx : Units) (fault : ChangeFault) → IsOfReading fault → BadCause drops idx fault
reading_bad drops idx DiskFault kind = tt
reading_bad drops idx NoMemory kind = tt
reading_bad drops idx others kind = absurd kind

pub never_of_disk : {A : Type 0} (drops : List Row) (idx : Units) (result : Result A ChangeFault) → IfErr result (λ e. e ≡ DiskFault)
    → BadIndexIs drops idx result
never_of_disk drops idx (Ok done) is = tt
never_of_disk drops idx (Err fault) is = subst (BadCause drops idx) (sym is) tt

pub index_of_reading : (fault : ChangeFault) → IsOfReading fault → IsOfIndex fault
index_of_reading DiskFault kind = tt
index_of_reading NoMemory kind = tt
index_of_reading others kind = absurd kind

pub erasing_of : (fault : ChangeFault) → IsOfReading fault → IsOfStoreErasing fault
erasing_of DiskFault kind = tt
erasing_of NoMemory kind = tt
erasing_of others kind = absurd kind

-- a fault of reading comes to a change of the store alone
pub aside_reading : (asked : PackageChange) (fault : ChangeFault) → IsOfReading fault → IsOfAside asked fault
aside_reading (request.Put n view) fault kind = tt
aside_reading (request.Erase n) fault kind = erasing_of fault kind

-- one of the index is not that no generation is left
pub not_spent : {A : Type 0} (fault : ChangeFault) → IsOfIndex fault → failed A fault ≡ failed A GenerationSpent → ⊥
not_spent GenerationSpent kind is = kind
not_spent others kind is = absurd cc

pub never_aside : {A : Type 0} (drops : List Row) (idx : Units) (result : Result A ChangeFault) → IfErr result IsOfStoreErasing → BadIndexIs drops idx result
never_aside drops idx (Ok done) kind = tt
never_aside drops idx (Err (BadIndex unit)) kind = absurd kind
never_aside drops idx (Err others) kind = tt

-- ---- bytes that are the same header

module _ (db : Database) (a b : List ℕ) (same : header a ≡ header b) where
  read_same : IsRead db a → IsRead db b
  read_same r = record { going = r.going; own = r.own; read = sym same ∙ r.read }

  puts_same : {A : Type 0} (is_new : Bool) (result : Result A ChangeFault) → PutsHeader db is_new a result → PutsHeader db is_new b result
  puts_same is_new result p = record { going = p.going; own = p.own; read = sym same ∙ p.read; later = p.later }

  -- what adding one answers, adding the other answers
  pub add_same : {A : Type 0} (result : Result A ChangeFault) → AddAnswer db a result → AddAnswer db b result
  add_same (Err Stopped) is = is
  add_same (Err (BadHeader f)) is = (is.0, sym same ∙ is.1)
  add_same (Err NumbersSpent) is = (read_same is.0, is.1)
  add_same others is = (is.0, puts_same true others is.1)

  -- and so does putting
  pub put_same : {A : Type 0} (n : ℕ) (result : Result A ChangeFault) → PutAnswer db n a result → PutAnswer db n b result
  put_same n (Err Stopped) is = is
  put_same n (Err (BadHeader f)) is = (is.0, sym same ∙ is.1)
  put_same n (Err NoSuch) is = (read_same is.0, is.1)
  put_same n others is = (is.0, puts_same false others is.1)
