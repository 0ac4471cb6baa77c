-- What is found of a key.
use Rattle.std.proofs.Common.{◌≡◌, ℕ, ◌<◌, ◌%◌, List, Ok, Err, Result, true, ◌∙◌, arith, eqb}
use Rattle.std.specs.Prelude.{IfOk, IfErr, IsOk}
use Rattle.std.proofs.lemmas.Bool.{and_parts}
use Rattle.rpm_db.proofs.Vocabulary.{AreHits, buckets_of, chain, FindFault, FindIs, Hit, index_in, is_current, is_headed, is_in_order, is_ordered, IsOutsideIndex}
use Rattle.rpm_db.proofs.Vocabulary.{IsWellFormed, Row, row_of_hit, SameRows, sealed_generation, IndexState, Units}
use Rattle.rpm_hindex.specs.declared.faults.FindFault.TheVariants.{BadIndex, DiskFault, NoMemory}
use Rattle.rpm_db.proofs.Making.{ordered_pending}

-- an index that is current at a generation is in order, and has buckets
pub current_in_order : (generation : ℕ) (s : IndexState) → is_current generation s ≡ true → is_in_order s ≡ true
unfolding is_current
current_in_order generation s p = (and_parts (eqb (sealed_generation s.first) generation) (is_in_order s) p).1

pub some_buckets : (s : IndexState) → is_in_order s ≡ true → 0 < buckets_of s.first
unfolding is_in_order
some_buckets s t =
    ordered_pending (buckets_of s.first) s.units s.second (and_parts (is_headed s.first) (is_ordered (buckets_of s.first) s.second s.units) t).1

-- hits among the records are hits among the rows that these are
pub same_hits : (kind : ℕ) (key : List ℕ) (rows found : List Row) (hits : List Hit) → SameRows rows found → AreHits kind key found hits
    → AreHits kind key rows hits
same_hits kind key rows found hits same are = record { rising = are.rising; each = λ hit. are.each hit ∙ same (row_of_hit kind key hit) }

pub ok_map : {A E : Type 0} (r : Result A E) (P Q : A → Type 0) → IfOk r P → ((a : A) → P a → Q a) → IfOk r Q
ok_map (Ok a) P Q p f = f a p
ok_map (Err e) P Q p f = tt

no_error : (said : Result (List ℕ) ℕ) (unit : ℕ) → IsOk said → said ≡ Err unit → ⊥
no_error (Ok places) unit ok is = absurd cc
no_error (Err e) unit ok is = absurd cc

-- a chain without a fault answers none
pub no_bad : {H : Type 0} (P : List ℕ → H → Type 0) (said : Result (List ℕ) ℕ) (r : Result H FindFault) → IsOk said → FindIs P said r → IfErr r IsOutsideIndex
no_bad P said (Ok hits) ok is = tt
no_bad P said (Err (BadIndex unit)) ok is = no_error said unit ok is
no_bad P said (Err DiskFault) ok is = tt
no_bad P said (Err NoMemory) ok is = tt

pub chain_ok : (buckets hash : ℕ) (idx : Units) → 0 < buckets → IsWellFormed buckets idx → IsOk (chain (index_in buckets idx) (hash % buckets))
chain_ok buckets hash idx some whole = whole.chains (hash % buckets) (omega arith)
