-- The rows that are kept, and what is written of them from scratch.
use Rattle.std.proofs.Common.{◌≡◌, ℕ, zero, suc, ◌+◌, ◌/◌, length, List, [], ◌∷◌, ◌++◌, map, Bool, cond, refl, sym, ap, ◌∙◌, arith, subst, inl, inr}
use Rattle.std.specs.Prelude.{Vec}
use Rattle.rpm_hindex.proofs.Vocabulary.{ArePadded, BadIndex, blank, bucket_count, chain, Change, DiskFault, EndsInZero, filter, flat_map, Global, HasLess}
use Rattle.rpm_hindex.proofs.Vocabulary.{HitsAre, HasDraftUnits, Index, index_in, IndexFull, InPlace, IsIndexMade, IsPaddedPlan, IsPlanFor, IsScratchOf}
use Rattle.rpm_hindex.proofs.Vocabulary.{IsSizedFor, IsTooLarge, IsTooLargeFor, IsWorkOf, kept_below, NoMemory, places_of, PrepareFault, with_units, range_with_len}
use Rattle.rpm_hindex.proofs.Vocabulary.{ReachesFor, records, Row, row_at, SameRows, Scratch, second_after, times, times-append, Units, units_after}
use Rattle.rpm_hindex.proofs.Vocabulary.{units_for, units_of, word, word_3, Work}
use Rattle.std.proofs.lemmas.Bool.{cases_Bool, cond-true, cond-false}
use Rattle.std.proofs.lemmas.List.{append-nil, append_assoc, map-append}
use Rattle.rpm_hindex.proofs.Seals.{image_held}
use Rattle.rpm_hindex.proofs.Same.{units_same_rows, length_same_rows}
use Rattle.rpm_hindex.proofs.Scratch.{image_size}
use Rattle.rpm_hindex.proofs.Dropping.{of_places}
use Rattle.rpm_hindex.proofs.Ways.{filter_last, filter_same}

flat_more : (h : ℕ → List Row) (a n : ℕ) → flat_map h (range_with_len a (n + 1)) ≡ flat_map h (range_with_len a n) ++ h (a + n)
flat_more h a zero = append-nil (h a) ∙ ap h (omega arith)
flat_more h a (suc n) =
    let long : suc n + 1 ≡ suc (n + 1) = omega arith in
    let end : (a + 1) + n ≡ a + suc n = omega arith in
    ap (λ (k : ℕ). flat_map h (range_with_len a k)) long
    ∙ ap (λ (rs : List Row). h a ++ rs) (flat_more h (a + 1) n ∙ ap (λ (k : ℕ). flat_map h (range_with_len (a + 1) n) ++ h k) end)
    ∙ sym (append_assoc (h a) (flat_map h (range_with_len (a + 1) n)) (h (a + suc n)))

-- one record more, kept or not
pub kept_more : (row : ℕ → Row) (kept : ℕ → Bool) (done : List ℕ) (at : ℕ) (first old new : List Row) → old ≡ first ++ map row (filter kept done)
    → new ≡ cond (kept at) (old ++ row at ∷ []) old → new ≡ first ++ map row (filter kept (done ++ at ∷ []))
kept_more row kept done at first old new so_far is = elim (cases_Bool (kept at)) [
  | inl stays ↦
      is
      ∙ cond-true (kept at) (old ++ row at ∷ []) old stays
      ∙ ap (λ (rs : List Row). rs ++ row at ∷ []) so_far
      ∙ append_assoc first (map row (filter kept done)) (row at ∷ [])
      ∙ ap (λ (rs : List Row). first ++ rs) (sym (map-append row (filter kept done) (at ∷ [])))
      ∙ ap (λ (ps : List ℕ). first ++ map row ps) (sym (filter_last kept done at stays))
  | inr gone ↦
      is
      ∙ cond-false (kept at) (old ++ row at ∷ []) old gone
      ∙ so_far
      ∙ ap (λ (ps : List ℕ). first ++ map row ps) (sym (filter_same kept done at gone))
]

-- the rows of a bucket more
pub kept_next : (x : Index) (kept : ℕ → Bool) (b : ℕ) (old new : List Row)
    → HitsAre (λ (places : List ℕ) (done : Unit {0}). new ≡ old ++ map (row_at x.unit) (filter kept places)) (chain x b) tt
    → old ≡ kept_below x kept b → new ≡ kept_below x kept (b + 1)
kept_next x kept b old new said so_far =
    let P : List ℕ → Unit {0} → Type 0 = λ places done. new ≡ old ++ map (row_at x.unit) (filter kept places) in
    let zero_b : b ≡ 0 + b = omega arith in
    of_places P x b tt said
    ∙ ap (λ (rs : List Row). rs ++ map (row_at x.unit) (filter kept (places_of x b))) so_far
    ∙ ap (λ (c : ℕ). kept_below x kept b ++ map (row_at x.unit) (filter kept (places_of x c))) zero_b
    ∙ sym (flat_more (λ (c : ℕ). map (row_at x.unit) (filter kept (places_of x c))) 0 b)

-- what is written from scratch makes the change
pub scratch_plan : (drops adds kept : List Row) (buckets : ℕ) (file : Units) (work : Work) → IsScratchOf (kept ++ adds) work → HasLess drops
    (records buckets file) kept → IsPlanFor drops adds buckets file work
unfolding IsPlanFor
scratch_plan drops adds kept buckets file (InPlace p) is less = absurd is
scratch_plan drops adds kept buckets file (Scratch image) (count, made) less =
    let new = with_units 1 (units_of image.bytes.items) (with_units 0 (blank ∷ []) file) in
    let held : HasDraftUnits (units_of image.bytes.items) new = image_held image.bytes.items (with_units 0 (blank ∷ []) file) new refl in
    let here = subst (λ (n : ℕ). IsIndexMade (kept ++ adds) n new) (sym count) (made.made new held) in
    record { whole = here.whole; rows = λ r. here.same r ∙ times-append r kept adds ∙ ap (λ (n : ℕ). n + times r adds) (less r) }

-- and its records are padded
pub scratch_padded : (rows : List Row) (buckets : ℕ) (file : Units) (work : Work) → IsScratchOf rows work → IsPaddedPlan buckets file work
unfolding IsPaddedPlan
scratch_padded rows buckets file (InPlace p) is = absurd is
scratch_padded rows buckets file (Scratch image) (count, made) =
    let old = with_units 0 (blank ∷ []) file in
    let new = with_units 1 (units_of image.bytes.items) old in
    subst (λ (n : ℕ). ArePadded (index_in n new)) (sym count) (made.made new (image_held image.bytes.items old new refl)).padded

-- ---- faults

pub large_for : (drops adds kept old : List Row) (e : PrepareFault) → HasLess drops old kept → IsTooLarge (kept ++ adds) e → IsTooLargeFor drops adds old e
large_for drops adds kept old (BadIndex unit) less is = tt
large_for drops adds kept old (IndexFull needed) less is = (
  is.0,
  λ new changed.
      is.1
      ∙ units_same_rows new (kept ++ adds) (λ r. times-append r kept adds ∙ ap (λ (n : ℕ). n + times r adds) (less r) ∙ sym (changed r)),
)
large_for drops adds kept old DiskFault less is = tt
large_for drops adds kept old NoMemory less is = tt

-- ---- how far a plan reaches

pub place_reach : (c : Change) (work : Work) → IsWorkOf c work → units_after work ≡ c.extent.used + length c.tail.items / 16
place_reach c (InPlace p) is =
    ap (λ (u : ℕ). u + length p.tail.items / 16) is.2 ∙ ap (λ (n : ℕ). c.extent.used + n / 16) (ap (λ (v : Vec ℕ Global). length v.items) is.1)
place_reach c (Scratch image) is = absurd is

pub scratch_reach : (drops adds kept old : List Row) (units : ℕ) (work : Work) → HasLess drops old kept → IsScratchOf (kept ++ adds) work
    → ReachesFor drops adds old units work
scratch_reach drops adds kept old units (InPlace p) less made = absurd made
scratch_reach drops adds kept old units (Scratch image) less made = λ new changed.
    let same : units_for (kept ++ adds) ≡ units_for new =
    units_same_rows new (kept ++ adds) (λ r. times-append r kept adds ∙ ap (λ (n : ℕ). n + times r adds) (less r) ∙ sym (changed r)) in
    let long = made.1.long in
    omega (arith, same, long)

-- ---- its size

pub scratch_sized : (drops adds kept old : List Row) (work : Work) → HasLess drops old kept → IsScratchOf (kept ++ adds) work
    → IsSizedFor drops adds old work
scratch_sized drops adds kept old (InPlace p) less made = absurd made
scratch_sized drops adds kept old (Scratch image) less made = λ new changed.
    let all : SameRows new (kept ++ adds) = λ r. times-append r kept adds ∙ ap (λ (n : ℕ). n + times r adds) (less r) ∙ sym (changed r) in
    let same : units_for (kept ++ adds) ≡ units_for new = units_same_rows new (kept ++ adds) all in
    let many : length (kept ++ adds) ≡ length new = length_same_rows new (kept ++ adds) all in
    let long = made.1.long in
    let size = image_size (kept ++ adds) image.bytes.items made.1 in
    (made.0 ∙ ap bucket_count many, size ∙ same, omega (arith, same, long))

pub place_sized : (drops adds old : List Row) (c : Change) (work : Work) → IsWorkOf c work → IsSizedFor drops adds old work
place_sized drops adds old c (InPlace p) is = λ new changed. tt
place_sized drops adds old c (Scratch image) is = absurd is

-- ---- the last number of unit 1

pub place_zero : (c : Change) (work : Work) → IsWorkOf c work → EndsInZero (second_after work)
place_zero c (InPlace p) is = ap (word 3) is.3 ∙ word_3 _ _ _ 0 (omega arith)
place_zero c (Scratch image) is = absurd is
