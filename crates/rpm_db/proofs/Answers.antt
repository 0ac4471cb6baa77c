-- What the store answers is what the state says.
use Rattle.std.proofs.Common.{◌≡◌, ℕ, List, Bool, false, Option, Some, None, Ok, Err, refl, ap, ◌∙◌, is_some}
use Rattle.std.specs.Prelude.{Result, Vec}
use Rattle.rpm_db.proofs.Vocabulary.{AnswerIs, blob_in, checksum_holds, checksums_hold, Database, Frame, frames, get-blobs-frames, GetFault, given_bytes, Global}
use Rattle.rpm_db.proofs.Vocabulary.{IsNext, option_map, package_of, ReadAnswer, store_of, Slot, slot_with, Units, verdict, verdict_of}
use Rattle.rpm_pkgdb.specs.declared.blob.GetFault.TheVariants.{NoSuch, Bad, DiskFault, NoMemory}
use Rattle.rpm_pkgdb.specs.Pairs as pairs
use Rattle.rpm_db.specs.declared.verify.Verdict.TheVariants.{BadHeader}

-- ---- a blob

pub read_is : (said : Option (Option (List ℕ))) (r : Result (Vec ℕ Global) GetFault) → AnswerIs given_bytes said r → ReadAnswer (option_map package_of said) r
read_is said (Ok v) is = ap (option_map package_of) is
read_is said (Err NoSuch) is = ap (option_map package_of) is
read_is said (Err Bad) is = ap (option_map package_of) is
read_is said (Err DiskFault) is = tt
read_is said (Err NoMemory) is = tt

-- ---- the next number

pub next_is : (there held : ℕ → Bool) (n : ℕ) (r : Option ℕ) → ((k : ℕ) → there k ≡ held k) → IsNext held n r → IsNext there n r
next_is there held n None same next = λ k lt. same k ∙ next k lt
next_is there held n (Some m) same next = (next.0, same m ∙ next.1, λ k a b. same k ∙ next.2 k a b)

-- ---- a verdict

broken_is : (f : Option (Option Frame)) → option_map (option_map checksum_holds) f ≡ Some None
    → verdict_of (option_map (option_map blob_in) f) (option_map (option_map checksum_holds) f) ≡ Some BadHeader
broken_is None is = absurd cc
broken_is (Some None) is = refl
broken_is (Some (Some frame)) is = absurd cc

pub broken : (file : Units) (db : Database) (n : ℕ) → checksums_hold file (store_of db) n ≡ Some None → verdict file db n ≡ Some BadHeader
broken file db n is =
    ap (λ (blob : Option (Option (List ℕ))). verdict_of blob (checksums_hold file (store_of db) n)) (get-blobs-frames file (store_of db) n)
    ∙ broken_is (frames file (store_of db) n) is

-- ---- the slots

none_there : {X : Type 0} (o : Option X) → o ≡ None → is_some o ≡ false
none_there None none = refl
none_there (Some x) none = absurd cc

pub next_of_slots : (slots : List Slot) (n : ℕ) (r : Option ℕ) → pairs.IsNextFound (λ m. slot_with m slots) n r → IsNext (λ m. is_some (slot_with m slots)) n r
next_of_slots slots n None next = λ k lt. none_there (slot_with k slots) (next k lt)
next_of_slots slots n (Some m) next = (next.0, next.1, λ k a b. none_there (slot_with k slots) (next.2 k a b))
