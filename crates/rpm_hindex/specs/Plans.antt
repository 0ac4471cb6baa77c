-- What a change writes, and what it leaves.
use Rattle.std.specs.Prelude.{◌≡◌, true, ℕ, ◌+◌, ◌-◌, ◌/◌, ◌%◌, ◌^◌, ◌<◌, ◌≤◌, List, [], ◌∷◌, ◌++◌, length, take}
use Rattle.std.specs.Prelude.{if◌then◌else◌, ◌==◌, slice_index_or, max}
use Rattle.rpm_outside.specs.Files.{Units, units_of, with_units, blank}
use Rattle.rpm_hindex.specs.declared.plan.Patch.{Patch}
use Rattle.rpm_hindex.specs.declared.plan.Patches.{Patches}
use Rattle.rpm_hindex.specs.declared.plan.Work.{Work}
use Rattle.rpm_hindex.specs.declared.plan.Work.TheVariants.{InPlace, Scratch}
use Rattle.rpm_hindex.specs.Rows.{Row, times}
use Rattle.rpm_hindex.specs.Index.{Index, index_in, records}
use Rattle.rpm_hindex.specs.Padding.{ArePadded, AddsPadded}
use Rattle.rpm_outside.specs.Words.{word}
use Rattle.rpm_hindex.specs.Sizes.{live_of, units_for, bucket_count}
use Rattle.rpm_hindex.specs.Whole.{IsWellFormed}
use Rattle.rpm_hindex.specs.State.{IndexState, is_ordered}

-- the file after these units were written, one after the other
abbrev pub after_units : List Patch → Units → Units
after_units [] file = file
after_units (p ∷ ps) file = after_units ps (with_units p.unit (p.words ∷ []) file)

-- units after all others, or nothing
abbrev pub after_tail : ℕ → List ℕ → Units → Units
after_tail used tail file = if length tail == 0 then file else with_units used (units_of tail) file

-- the file after a change was written
abbrev pub file_after : Work → Units → Units
file_after (InPlace p) file =
    with_units 1 (p.second ∷ []) (after_tail p.used p.tail.items (after_units p.units.items file))
file_after (Scratch image) file = with_units 1 (units_of image.bytes.items) (with_units 0 (blank ∷ []) file)

-- how many buckets the index has then
abbrev pub buckets_after : Work → ℕ
buckets_after (InPlace p) = p.buckets
buckets_after (Scratch image) = image.buckets

-- unit 1 then
abbrev pub second_after : Work → List ℕ
second_after (InPlace p) = p.second
second_after (Scratch image) = take 16 image.bytes.items

-- how many units it reaches
abbrev pub units_after : Work → ℕ
units_after (InPlace p) = p.used + length p.tail.items / 16
units_after (Scratch image) = 1 + length image.bytes.items / 16

-- the value after this was written: these buckets are to be sealed, and the file is no longer than before or than this
-- reaches
pub record IsAfter (old new : IndexState) (work : Work) : Type 0 where
  pub pending : new.pending ≡ buckets_after work
  pub second : new.second ≡ second_after work
  pub units : units_after work ≤ new.units
  pub grows : new.units ≤ max old.units (units_after work)

-- the numbers that it leaves suit each file that is large enough
abbrev pub LeavesOrder : Work → Type 0
LeavesOrder work = (units : ℕ) → units_after work ≤ units
    → is_ordered (buckets_after work) (second_after work) units ≡ true

-- the patch at a place of a list
abbrev pub patch_at : List Patch → ℕ → Patch
patch_at ps k = slice_index_or ps k (record { unit = 0; words = [] })

-- what is made from scratch has the buckets and the units that these rows need, and no dead unit
abbrev pub IsSized : List Row → Work → Type 0
IsSized rows (InPlace p) = Unit {0}
IsSized rows (Scratch image) =
    (image.buckets ≡ bucket_count (length rows)) × (word 0 (take 16 image.bytes.items) ≡ units_for rows)
    × (1 + length image.bytes.items / 16 ≡ units_for rows)

-- the units that a write in place reaches, in a file of so many
pub record ArePatches (units : ℕ) (p : Patches) : Type 0 where
  pub each : (k : ℕ) → k < length p.units.items → (1 ≤ (patch_at p.units.items k).unit)
      × ((patch_at p.units.items k).unit < p.used)
  pub whole : length p.tail.items % 16 ≡ 0
  pub from : 2 ≤ p.used
  pub room : p.used + length p.tail.items / 16 ≤ 2 ^ 28
  pub fits : p.used ≤ units

-- a plan that can be written to such a file
abbrev pub CanWrite : ℕ → Work → Type 0
CanWrite units (InPlace p) = ArePatches units p
CanWrite units (Scratch image) = (16 ≤ length image.bytes.items) × (length image.bytes.items % 16 ≡ 0)
    × (1 + length image.bytes.items / 16 ≤ 2 ^ 28)

-- the rows without the drops and with the adds, each as often
abbrev pub HasChanged : List Row → List Row → List Row → List Row → Type 0
HasChanged drops adds old new = (row : Row) → times row new ≡ (times row old - times row drops) + times row adds

-- a file that is an index with the change
pub record IsChanged (drops adds old : List Row) (buckets : ℕ) (new : Units) : Type 0 where
  pub whole : IsWellFormed buckets new
  pub rows : HasChanged drops adds old (records buckets new)

-- writing this makes the change of this file, which has so many buckets
unfoldable pub IsPlanFor : List Row → List Row → ℕ → Units → Work → Type 0
IsPlanFor drops adds buckets file work =
    IsChanged drops adds (records buckets file) (buckets_after work) (file_after work file)

-- the records that a plan writes are padded: in place those that it adds, from scratch all
abbrev pub WritesPadded : Work → Index → Index → Type 0
WritesPadded (InPlace p) old new = AddsPadded old new
WritesPadded (Scratch image) old new = ArePadded new

-- writing this to a file of so many buckets writes padded records
unfoldable pub IsPaddedPlan : ℕ → Units → Work → Type 0
IsPaddedPlan buckets file work =
    WritesPadded work (index_in buckets file) (index_in (buckets_after work) (file_after work file))

-- what is made from scratch has the size that the rows after the change need
abbrev pub IsSizedFor : List Row → List Row → List Row → Work → Type 0
IsSizedFor drops adds old work = (new : List Row) → HasChanged drops adds old new → IsSized new work

-- writing this makes a file of so many units no longer than its units with the added rows' records after them, or an
-- index of the rows after the change that is made from scratch
abbrev pub ReachesFor : List Row → List Row → List Row → ℕ → Work → Type 0
ReachesFor drops adds old units work = (new : List Row) → HasChanged drops adds old new
    → units_after work ≤ max (units + live_of adds) (units_for new)

-- an index of these rows, in so many units, that gets others has no more units than these with the others' records
-- after them, or than one of all of them that is made from scratch
abbrev pub reach_with : List Row → List Row → ℕ → ℕ
reach_with adds old units = max (units + live_of adds) (units_for (old ++ adds))
