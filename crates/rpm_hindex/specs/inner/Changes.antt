-- A change that is being worked out, as the index that it would leave.
use Rattle.std.specs.Prelude.{◌≡◌, ℕ, ◌+◌, ◌-◌, ◌*◌, ◌/◌, ◌%◌, ◌^◌, ◌<◌, ◌≤◌, ◌⊎◌, List, [], length, map, Bool, not}
use Rattle.std.specs.Prelude.{if◌then◌else◌, nat_lt, Option, Some, None, unwrap_or, true, Err, Result, IsOk}
use Rattle.std.specs.Ordering.{nat_cmp}
use Rattle.std.specs.BTreeMap.{get}
use Rattle.std.specs.BTreeSet.{contains}
use Rattle.std.specs.List.{filter, Contains, flat_map, range_with_len, sum_by}
use Rattle.rpm_outside.specs.Files.{Units, units_of, unit_at}
use Rattle.rpm_hindex.specs.declared.chain.Extent.{Extent}
use Rattle.rpm_hindex.specs.declared.change.Change.{Change}
use Rattle.rpm_hindex.specs.declared.heads.Head.{Head}
use Rattle.rpm_hindex.specs.declared.plan.Patch.{Patch}
use Rattle.rpm_hindex.specs.declared.plan.Work.{Work}
use Rattle.rpm_hindex.specs.declared.plan.Work.TheVariants.{InPlace, Scratch}
use Rattle.rpm_hindex.specs.declared.faults.PrepareFault.{PrepareFault}
use Rattle.rpm_hindex.specs.declared.faults.PrepareFault.TheVariants.{IndexFull, BadIndex, DiskFault, NoMemory}
use Rattle.rpm_outside.specs.Words.{word, unit_of_words}
use Rattle.rpm_hindex.specs.Rows.{Row, times}
use Rattle.rpm_hindex.specs.Sizes.{first_record, bucket_count, units_for, live_of}
use Rattle.rpm_hindex.specs.inner.Drafts.{IsDraftOf}
use Rattle.rpm_hindex.specs.Index.{Index, index_in, chain, is_link, row_at, all_places, places_of, rows_of}
use Rattle.rpm_hindex.specs.laws.Parts.{bucket_unit}
use Rattle.rpm_hindex.specs.Index.{units_at}
use Rattle.rpm_hindex.specs.Padding.{AddsPadded}
use Rattle.rpm_hindex.specs.Whole.{IsWhole}
use Rattle.rpm_hindex.specs.Refusals.{HoldsMore}
use Rattle.rpm_hindex.specs.declared.faults.FindFault.{FindFault}
use Rattle.rpm_hindex.specs.Answers.{IsFaultOf}

-- ---- places

abbrev pub is_kept : (ℕ → Bool) → ℕ → Bool
is_kept dropped place = not (dropped place)

-- one place more is dropped
pub record DropOfOne (old new : ℕ → Bool) (place : ℕ) : Type 0 where
  pub here : new place ≡ true
  pub others : (q : ℕ) → (q ≡ place → ⊥) → new q ≡ old q

-- ---- units

-- a map with a value at a key
pub record Puts {X : Type 0} (old new : ℕ → Option X) (key : ℕ) (value : X) : Type 0 where
  pub here : new key ≡ Some value
  pub others : (k : ℕ) → (k ≡ key → ⊥) → new k ≡ old k

-- a map has some value at this key, and the others as before
abbrev pub PutsOne : {X : Type 0} → (ℕ → Option X) → (ℕ → Option X) → ℕ → Type 0
PutsOne {X} old new key = (value : X) × Puts old new key value

-- a unit with another number k
pub record HasWord (old new : List ℕ) (k n : ℕ) : Type 0 where
  pub here : word k new ≡ n
  pub others : (j : ℕ) → j < 4 → (j ≡ k → ⊥) → word j new ≡ word j old

-- a unit as it is changed so far
abbrev pub unit_after : (ℕ → Option (List ℕ)) → Units → ℕ → List ℕ
unit_after units file i = unwrap_or (units i) (unit_at file i)

-- a bucket's word names another unit
pub record SetsBucket (file : Units) (old new : ℕ → Option (List ℕ)) (bucket n : ℕ) : Type 0 where
  pub words : List ℕ
  pub put : Puts old new (bucket_unit bucket) words
  pub word' : HasWord (unit_after old file (bucket_unit bucket)) words (bucket % 4) n

-- a record names another unit as its next
pub record SetsNext (old new : ℕ → Option (List ℕ)) (h : Head) (n : ℕ) : Type 0 where
  pub words : List ℕ
  pub put : Puts old new h.at words
  pub next : word 0 words ≡ n
  pub packed : word 1 words ≡ h.size
  pub number : word 2 words ≡ h.number
  pub «in» : word 3 words ≡ h.place

-- a unit after unit 0 and before that one is put
abbrev pub PutsWithin : {X : Type 0} → ℕ → (ℕ → Option X) → (ℕ → Option X) → Type 0
PutsWithin {X} used old new = (key : ℕ) × (1 ≤ key) × (key < used) × PutsOne old new key

-- a unit is named by this record, or by the word of the bucket where there is no record
abbrev pub Unlinks : Units → (ℕ → Option (List ℕ)) → (ℕ → Option (List ℕ)) → ℕ → Option Head → ℕ → Type 0
Unlinks file old new bucket None n = SetsBucket file old new bucket n
Unlinks file old new bucket (Some h) n = SetsNext old new h n

-- ---- a change that can go on

-- each of these units stands after unit 0 and before this one
abbrev pub IsBehind : {X : Type 0} → ℕ → (ℕ → Option X) → Type 0
IsBehind {X} used units = (key : ℕ) (value : X) → units key ≡ Some value → (1 ≤ key) × (key < used)

-- a change can begin with this extent, where unit 1 counts so many records of so many units
pub record CanBegin (extent : Extent) (count units : ℕ) : Type 0 where
  pub fours : extent.buckets % 4 ≡ 0
  pub some : 0 < extent.buckets
  pub few : extent.buckets ≤ 2 ^ 27
  pub front : first_record extent.buckets ≤ extent.used
  pub room : extent.used ≤ 2 ^ 28
  pub live : first_record extent.buckets + units ≤ extent.used
  pub records : count ≤ 2 * extent.buckets

-- a change that changes nothing yet, of an index of so many records of so many units
pub record IsUnchanged (here : Extent) (count size : ℕ) (c : Change) : Type 0 where
  pub extent : c.extent ≡ here
  pub tail : c.tail.items ≡ []
  pub units : (q : ℕ) → get nat_cmp c.units q ≡ None
  pub records : c.records ≡ count
  pub live : c.live ≡ size
  pub dropped : (p : ℕ) → is_kept (λ q. contains nat_cmp c.dropped q) p ≡ true

-- a change that can go on
pub record CanGo (c : Change) : Type 0 where
  pub fours : c.extent.buckets % 4 ≡ 0
  pub some : 0 < c.extent.buckets
  pub few : c.extent.buckets ≤ 2 ^ 27
  pub front : first_record c.extent.buckets ≤ c.extent.used
  pub units : IsBehind c.extent.used (λ q. get nat_cmp c.units q)
  pub whole : length c.tail.items % 16 ≡ 0
  pub room : c.extent.used + length c.tail.items / 16 ≤ 2 ^ 28
  pub live : first_record c.extent.buckets + c.live ≤ c.extent.used + length c.tail.items / 16
  pub records : c.records ≤ 2 * c.extent.buckets

-- the index so far: changed units, and records after all others
abbrev pub index_with : ℕ → ℕ → (ℕ → Option (List ℕ)) → List ℕ → Units → Index
index_with buckets used units tail file = record {
  buckets = buckets;
  used = used + length tail / 16;
  head = λ bucket. word (bucket % 4) (unit_after units file (bucket_unit bucket));
  unit = λ i. if nat_lt i used then unit_after units file i else unit_at (units_of tail) (i - used);
}

abbrev pub index_after : Change → Units → Index
index_after c file = index_with c.extent.buckets c.extent.used (λ q. get nat_cmp c.units q) c.tail.items file

-- a record that stays but for its next
pub record Stays (u v : ℕ → List ℕ) (q : ℕ) : Type 0 where
  pub size : word 1 (v q) ≡ word 1 (u q)
  pub number : word 2 (v q) ≡ word 2 (u q)
  pub «in» : word 3 (v q) ≡ word 3 (u q)
  pub key : (i : ℕ) → q < i → i < q + units_at u q → v i ≡ u i

-- the index of a change has the chains of the file without the places that were dropped
pub record IsWithoutDropped (c : Change) (file : Units) : Type 0 where
  pub whole : IsWhole c.records c.live (index_after c file)
  pub chains : (b : ℕ) → b < c.extent.buckets → places_of (index_after c file) b
      ≡ filter (is_kept (λ p. contains nat_cmp c.dropped p))
      (places_of (index_in c.extent.buckets file) b)
  pub stays : (q : ℕ) → Contains (all_places (index_in c.extent.buckets file)) q
      → Stays (unit_at file) (index_after c file).unit q

-- the index of a change of which nothing is worked out yet is that of the file
pub record IsStarted (c : Change) (file : Units) : Type 0 where
  pub whole : IsWhole c.records c.live (index_after c file)
  pub rows' : rows_of (index_after c file) ≡ rows_of (index_in c.extent.buckets file)
  pub cut : IsWithoutDropped c file

-- the index of d is whole, and has these rows more than that of c, in records that are padded
pub record AddsRows (c d : Change) (file : Units) (rows : List Row) : Type 0 where
  pub whole : IsWhole d.records d.live (index_after d file)
  pub rows' : (row : Row) → times row (rows_of (index_after d file)) ≡ times row (rows_of (index_after c file))
      + times row rows
  pub padded : AddsPadded (index_after c file) (index_after d file)

-- ---- what is written of it

abbrev pub patch_of : ℕ × List ℕ → Patch
patch_of e = record { unit = e.0; words = e.1 }

-- what a change writes in place
abbrev pub IsWorkOf : Change → Work → Type 0
IsWorkOf c (InPlace p) =
    (p.units.items ≡ map patch_of c.units.entries) × (p.tail ≡ c.tail) × (p.used ≡ c.extent.used)
    × (p.second ≡ unit_of_words (c.extent.used + length c.tail.items / 16) c.records c.live 0)
    × (p.buckets ≡ c.extent.buckets)
IsWorkOf c (Scratch image) = ⊥

-- ---- the rows that are kept

-- the rows of all places that are kept, bucket by bucket
abbrev pub kept_of : Index → (ℕ → Bool) → List Row
kept_of x kept = flat_map (λ (b : ℕ). map (row_at x.unit) (filter kept (places_of x b))) (range_with_len 0 x.buckets)

-- the rows of the first buckets
abbrev pub kept_below : Index → (ℕ → Bool) → ℕ → List Row
kept_below x kept end = flat_map (λ (b : ℕ). map (row_at x.unit) (filter kept (places_of x b))) (range_with_len 0 end)

-- the rows without those, each as often
abbrev pub HasLess : List Row → List Row → List Row → Type 0
HasLess drops old new = (row : Row) → times row new ≡ times row old - times row drops

-- what is written is from scratch, and an image of these rows
abbrev pub IsScratchOf : List Row → Work → Type 0
IsScratchOf rows (InPlace p) = ⊥
IsScratchOf rows (Scratch image) = (image.buckets ≡ bucket_count (length rows))
    × IsDraftOf rows (bucket_count (length rows)) image.bytes.items

-- ---- faults

-- a fault that isn't for want of room
abbrev pub IsOther : PrepareFault → Type 0
IsOther (BadIndex unit) = Unit {0}
IsOther (IndexFull needed) = ⊥
IsOther DiskFault = Unit {0}
IsOther NoMemory = Unit {0}

-- a fault for want of room tells what these rows need, which is too much
abbrev pub IsTooLarge : List Row → PrepareFault → Type 0
IsTooLarge rows (BadIndex unit) = Unit {0}
IsTooLarge rows (IndexFull needed) = (2 ^ 28 < needed) × (needed ≡ units_for rows)
IsTooLarge rows DiskFault = Unit {0}
IsTooLarge rows NoMemory = Unit {0}

-- a fault that names a unit names the first fault of this chain
abbrev pub IsChainFault : Result (List ℕ) ℕ → PrepareFault → Type 0
IsChainFault said (BadIndex unit) = said ≡ Err unit
IsChainFault said (IndexFull needed) = Unit {0}
IsChainFault said DiskFault = Unit {0}
IsChainFault said NoMemory = Unit {0}

-- a place that counts for so much, where it is kept
abbrev pub if_kept : (ℕ → Bool) → (ℕ → ℕ) → ℕ → ℕ
if_kept kept f p = if kept p then f p else 0

-- each chain is well formed
abbrev pub HasNoFault : Index → Type 0
HasNoFault x = (b : ℕ) → b < x.buckets → IsOk (chain x b)

-- a fault that names a unit names that of some chain
abbrev pub HasFault : Index → FindFault → Type 0
HasFault x e = (b : ℕ) × (b < x.buckets) × IsFaultOf (chain x b) e

-- each bucket's word is a link or as it was, and, where no chain has a fault, what unit 1 counts fell no faster than
-- what the chains keep
pub record IsHonest (c : Change) (file : Units) : Type 0 where
  pub heads : (b : ℕ) → b < c.extent.buckets → (is_link (index_after c file) ((index_after c file).head b) ≡ true)
      ⊎ ((index_after c file).head b ≡ (index_in c.extent.buckets file).head b)
  pub records : HasNoFault (index_in c.extent.buckets file)
      → word 1 (unit_at file 1) + sum_by (if_kept (is_kept (λ p. contains nat_cmp c.dropped p)) (λ p. 1))
      (all_places (index_in c.extent.buckets file)) ≤ c.records + length (all_places (index_in c.extent.buckets file))
  pub live : HasNoFault (index_in c.extent.buckets file)
      → word 2 (unit_at file 1) + sum_by (if_kept (is_kept (λ p. contains nat_cmp c.dropped p))
      (units_at (unit_at file)))
      (all_places (index_in c.extent.buckets file)) ≤ c.live
      + sum_by (units_at (unit_at file)) (all_places (index_in c.extent.buckets file))

-- a fault that names a unit names the fault of a bucket's chain, or unit 1, which counts too little unless there is one
abbrev pub IsBadSoFar : ℕ → Units → PrepareFault → Type 0
IsBadSoFar buckets file (BadIndex unit) =
    ((b : ℕ) × (b < buckets) × (chain (index_in buckets file) b ≡ Err unit))
    ⊎ ((unit ≡ 1) × (HasNoFault (index_in buckets file) → HoldsMore buckets file))
IsBadSoFar buckets file (IndexFull needed) = Unit {0}
IsBadSoFar buckets file DiskFault = Unit {0}
IsBadSoFar buckets file NoMemory = Unit {0}

-- ---- rows that a change has dropped

-- the rows of an index that a change keeps
abbrev pub kept_in : Index → Change → List Row
kept_in x c = kept_of x (is_kept (λ p. contains nat_cmp c.dropped p))

-- a change lost these of the rows that it kept, each at most as often as it is dropped
pub record HasGone (drops : List Row) (old new : Change) (x : Index) : Type 0 where
  pub gone : List Row
  pub dropped : (row : Row) → times row gone ≤ times row drops
  pub held : (row : Row) → times row (kept_in x new) + times row gone ≡ times row (kept_in x old)
  pub records : new.records + length gone ≡ old.records
  pub live : new.live + live_of gone ≡ old.live

-- some of the rows that a change keeps and is to drop are more than it counts
pub record CountsLess (drops : List Row) (c : Change) (x : Index) : Type 0 where
  pub gone : List Row
  pub dropped : (row : Row) → times row gone ≤ times row drops
  pub held : (row : Row) → times row gone ≤ times row (kept_in x c)
  pub more : (c.records < length gone) ⊎ (c.live < live_of gone)

-- a fault that names a unit says so
abbrev pub IsShort : List Row → Change → Index → PrepareFault → Type 0
IsShort drops c x (BadIndex unit) = CountsLess drops c x
IsShort drops c x (IndexFull needed) = Unit {0}
IsShort drops c x DiskFault = Unit {0}
IsShort drops c x NoMemory = Unit {0}

-- a change of this file that has dropped nothing yet
pub record IsFreshChange (c : Change) (file : Units) : Type 0 where
  pub records : c.records ≡ word 1 (unit_at file 1)
  pub live : c.live ≡ word 2 (unit_at file 1)
  pub kept : (p : ℕ) → is_kept (λ q. contains nat_cmp c.dropped q) p ≡ true
