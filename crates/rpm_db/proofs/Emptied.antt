-- A database without packages, while it is made.
use Rattle.std.proofs.Common.{◌≡◌, ℕ, zero, suc, List, [], length, replicate, map, not, ◌==◌, Option, Some, None, Ok, Err, refl, sym, ap, ◌∙◌, inl, inr, arith}
use Rattle.rpm_db.proofs.Vocabulary.{begins_with_word, blank_store, blobs, bucket_count, entry_of_slot, filter, free, get-packages, head_reason, in_file, is_blank, is_used}
use Rattle.rpm_db.proofs.Vocabulary.{IsEmpty, IsUnsealed, IsWellFormed, live_of, made_new, made_or_damaged, made_store, option_map, package_of, packages}
use Rattle.rpm_db.proofs.Vocabulary.{Reason, records, RewriteFault, Row, rows, rows_at, SameRows, Store, store, slot_units, table_fault, times}
use Rattle.rpm_db.proofs.Vocabulary.{times-rows, unit_at, Units, units_for, value_or_fault, word}
use Rattle.std.specs.Prelude.{codes}
use Rattle.std.specs.FinMap as finite
use Rattle.std.proofs.lemmas.Bool.{cases_Bool}
use Rattle.rpm_pkgdb.specs.Store as pkgdb
use Rattle.rpm_hindex.specs.declared.faults.RewriteFault.TheVariants as rewrite
use Rattle.rpm_hindex.specs.Rewrites.{IsIndexFull}

-- a store of no pages is a blank one
passed : {X E : Type 0} (o : Option E) (x y : X) → value_or_fault o x ≡ Ok y → x ≡ y
passed None x y is = cc
passed (Some e) x y is = absurd cc

pages_some : (units : ℕ) (head : List ℕ) → head_reason units head ≡ None → word 3 head ≡ 0 → ⊥
unfolding head_reason
pages_some units head none zero_pages =
    let n = rw zero_pages at none in
    elim (cases_Bool (not (begins_with_word (codes "RpmP") head))) [
      | inl a ↦ (let m = rw a at n in absurd cc)
      | inr a ↦ elim (cases_Bool (not (word 1 head == 0))) [
        | inl b ↦ (let m = rw (a, b) at n in absurd cc)
        | inr b ↦ (let m = rw (a, b) at n in absurd cc)
      ]
    ]

some_pages : (r : Option Reason) (file : Units) (value : Store) → head_reason (length file) (unit_at file 0) ≡ r → made_or_damaged r file ≡ Ok value
    → value.pages ≡ 0 → ⊥
some_pages (Some reason) file value head is none = absurd cc
some_pages None file value head is none =
    let pages = word 3 (unit_at file 0) in
    let same : made_store pages file ≡ value = passed (table_fault pages (length file) (slot_units pages file)) (made_store pages file) value is in
    pages_some (length file) (unit_at file 0) head (ap (λ (s : Store). s.pages) same ∙ none)

pub blank_is : (file : Units) (value : Store) → store file ≡ Ok value → value.pages ≡ 0 → store file ≡ Ok blank_store
unfolding store
blank_is file value is none = elim (cases_Bool (is_blank file)) [
  | inl here ↦ rw here refl
  | inr other ↦ absurd (some_pages (head_reason (length file) (unit_at file 0)) file value refl (rw other at is) none)
]

-- no package, whatever the file
pub unused : (file : Units) (n : ℕ) → map (entry_of_slot file) (filter is_used (replicate n free)) ≡ []
unused file zero = refl
unused file (suc n) = unused file n

pub no_blobs : (file : Units) (value : Store) → blobs file (in_file (made_new value)) ≡ finite.empty
unfolding blobs
no_blobs file value = ap finite.from_entries (unused file 254)

pub blank_empty : (file : Units) → store file ≡ Ok blank_store → IsEmpty file
unfolding blobs
blank_empty file is = record { value = blank_store; undamaged = is; none = refl; field_is = refl }

-- no rows
pub no_rows : (file : Units) (value : Store) → blobs file value ≡ finite.empty → (row : Row) → times row (rows (packages file value)) ≡ times row []
no_rows file value none row =
    times-rows row (packages file value)
    ∙ ap (λ o. times row (rows_at row.number o)) (get-packages file value row.number ∙ ap (option_map package_of)
    (ap (λ m. finite.get m row.number) none ∙ finite.get-empty _ row.number))

pub empty_unsealed : (buckets : ℕ) (pkg idx : Units) (value : Store) → pkgdb.KeepsStore pkg (made_new value) → IsWellFormed buckets idx
    → SameRows [] (records buckets idx) → IsUnsealed 1 buckets pkg idx
empty_unsealed buckets pkg idx value keeps whole same = record {
  value = in_file (made_new value);
  undamaged = keeps;
  generation_is = refl;
  whole = whole;
  same = λ row. same row ∙ sym (no_rows pkg (in_file (made_new value)) (no_blobs pkg value) row);
}

-- no rows need few units
small : units_for [] ≡ 18
unfolding live_of bucket_count
small = refl

pub never_full : (rs : List Row) → rs ≡ [] → (fault : RewriteFault) → IsIndexFull {T = Unit {0}} (units_for rs) (Err fault) → (needed : ℕ)
    → fault ≡ rewrite.IndexFull needed → ⊥
never_full rs none (rewrite.IndexFull told) full needed is = omega (arith, full.0, ap units_for none, small)
never_full rs none rewrite.DiskFault full needed is = absurd cc
never_full rs none rewrite.NoMemory full needed is = absurd cc
