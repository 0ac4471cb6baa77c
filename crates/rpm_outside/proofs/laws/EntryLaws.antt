-- Laws of what entries write.
use Rattle.std.specs.Prelude.{◌≡◌, ◌⊎◌, ℕ, ◌+◌, ◌-◌, ◌<◌, ◌≤◌, max, List, [], ◌∷◌, length}
use Rattle.std.proofs.Common.{inl, inr, ⊎_elim, refl, sym, ap, subst, ◌∙◌, arith}
use Rattle.std.proofs.lemmas.Bool.{cases_lt}
use Rattle.rpm_outside.specs.declared.disk.File.{File}
use Rattle.rpm_outside.specs.Files.{cases_file, Units, Files, file_of, unit_at, with_units}
use Rattle.rpm_outside.specs.laws.Puts.{length-put, put_before, put_inside, put_after}
use Rattle.rpm_outside.proofs.laws.PutLaws.{same_units}
use Rattle.rpm_outside.specs.laws.FileLaws.{file_of-with, other_file, same_files}
use Rattle.rpm_outside.specs.Logs.{Entry, with_entry, with_entries}
use Rattle.rpm_outside.specs.Changed.{IsChangedInRange}
use Rattle.rpm_outside.specs.Entries.{HasUnit, Covers, end_in, ends_in, Within}

module _ (entry : Entry) (files : Files) where
  abbrev here : Units
  here = with_units entry.first entry.units (file_of entry.file files)

  written_file : (file : File) → file ≡ entry.file
      → file_of file (with_entry entry files) ≡ with_units entry.first entry.units (file_of file files)
  written_file file same =
      subst (λ (f : File). file_of f (with_entry entry files) ≡ with_units entry.first entry.units (file_of f files))
      (sym same) (file_of-with entry.file here files)

  pub length-entry : (file : File) → length (file_of file (with_entry entry files))
      ≡ end_in file entry (length (file_of file files))
  length-entry file = elim (cases_file file entry.file) as (λ c. length (file_of file (with_entry entry files))
      ≡ ⊎_elim (λ (same : file ≡ entry.file). max (length (file_of file files)) (entry.first + length entry.units))
      (λ (differ : file ≡ entry.file → ⊥). length (file_of file files)) c) [
        | inl same ↦ ap length (written_file file same) ∙ length-put entry.first entry.units (file_of file files)
        | inr differ ↦ ap length (other_file file entry.file here files differ)
      ]

pub length-entries : (entries : List Entry) (files : Files) (file : File)
    → length (file_of file (with_entries entries files)) ≡ ends_in file entries
    (length (file_of file files))
length-entries [] files file = refl
length-entries (entry ∷ entries) files file =
    length-entries entries (with_entry entry files) file
    ∙ ap (λ (n : ℕ). ends_in file entries n) (length-entry entry files file)

-- ---- one unit of two files

abbrev Agree : Files → Files → File → ℕ → Type 0
Agree a b file i = unit_at (file_of file a) i ≡ unit_at (file_of file b) i

entry_agrees : (entry : Entry) (a b : Files) (file : File) (i : ℕ) → Agree a b file i
    → Agree (with_entry entry a) (with_entry entry b) file i
entry_agrees entry a b file i agree = elim (cases_file file entry.file) [
  | inl same ↦
      ap (λ (u : Units). unit_at u i) (written_file entry a file same)
      ∙ elim (cases_lt i entry.first) [
        | inl below ↦ put_before entry.first entry.units (file_of file a) i below ∙ agree
            ∙ sym (put_before entry.first entry.units (file_of file b) i below)
        | inr from ↦ elim (cases_lt i (entry.first + length entry.units)) [
          | inl inside ↦
              let k : ℕ = i - entry.first in
              let place : i ≡ entry.first + k = omega arith in
              ap (λ (j : ℕ). unit_at (with_units entry.first entry.units (file_of file a)) j) place
              ∙ put_inside entry.first entry.units (file_of file a) k (omega arith)
              ∙ sym (put_inside entry.first entry.units (file_of file b) k (omega arith))
              ∙ ap (λ (j : ℕ). unit_at (with_units entry.first entry.units (file_of file b)) j) (sym place)
          | inr past ↦ put_after entry.first entry.units (file_of file a) i past ∙ agree
              ∙ sym (put_after entry.first entry.units (file_of file b) i past)
        ]
      ]
      ∙ ap (λ (u : Units). unit_at u i) (sym (written_file entry b file same))
  | inr differ ↦
      ap (λ (u : Units). unit_at u i) (other_file file entry.file (here entry a) a differ)
      ∙ agree
      ∙ ap (λ (u : Units). unit_at u i) (sym (other_file file entry.file (here entry b) b differ))
]

entry_covers : (entry : Entry) (a b : Files) (file : File) (i : ℕ) → HasUnit entry file i
    → Agree (with_entry entry a) (with_entry entry b) file i
entry_covers entry a b file i w =
    let k : ℕ = i - entry.first in
    let place : i ≡ entry.first + k = omega (arith, w.from) in
    let below : k < length entry.units = omega (arith, w.from, w.before) in
    ap (λ (u : Units). unit_at u i) (written_file entry a file (sym w.there))
    ∙ ap (λ (j : ℕ). unit_at (with_units entry.first entry.units (file_of file a)) j) place
    ∙ put_inside entry.first entry.units (file_of file a) k below
    ∙ sym (put_inside entry.first entry.units (file_of file b) k below)
    ∙ ap (λ (j : ℕ). unit_at (with_units entry.first entry.units (file_of file b)) j) (sym place)
    ∙ ap (λ (u : Units). unit_at u i) (sym (written_file entry b file (sym w.there)))

pub entries_agree : (entries : List Entry) (a b : Files) (file : File) (i : ℕ)
    → unit_at (file_of file a) i ≡ unit_at (file_of file b) i
    → unit_at (file_of file (with_entries entries a)) i ≡ unit_at (file_of file (with_entries entries b)) i
entries_agree [] a b file i agree = agree
entries_agree (entry ∷ entries) a b file i agree =
    entries_agree entries (with_entry entry a) (with_entry entry b) file i (entry_agrees entry a b file i agree)

pub entries_cover : (entries : List Entry) (a b : Files) (file : File) (i : ℕ) → Covers entries file i
    → unit_at (file_of file (with_entries entries a)) i ≡ unit_at (file_of file (with_entries entries b)) i
entries_cover [] a b file i covers = absurd covers
entries_cover (entry ∷ entries) a b file i (inl w) =
    entries_agree entries (with_entry entry a) (with_entry entry b) file i (entry_covers entry a b file i w)
entries_cover (entry ∷ entries) a b file i (inr later) =
    entries_cover entries (with_entry entry a) (with_entry entry b) file i later

-- ---- lengths

end_in_max : (file : File) (entry : Entry) (n : ℕ) → end_in file entry n ≡ max n (end_in file entry 0)
end_in_max file entry n = elim (cases_file file entry.file) as
    (λ c. ⊎_elim (λ (same : file ≡ entry.file). max n (entry.first + length entry.units))
    (λ (differ : file ≡ entry.file → ⊥). n) c ≡ max n
    (⊎_elim (λ (same : file ≡ entry.file). max 0 (entry.first + length entry.units))
    (λ (differ : file ≡ entry.file → ⊥). 0) c)) [
      | inl same ↦ omega arith
      | inr differ ↦ omega arith
    ]

pub ends_in_max : (file : File) (entries : List Entry) (n : ℕ) → ends_in file entries n ≡ max n (ends_in file entries 0)
ends_in_max file [] n = omega arith
ends_in_max file (entry ∷ entries) n =
    omega (
      arith,
      ends_in_max file entries (end_in file entry n),
      ends_in_max file entries (end_in file entry 0),
      end_in_max file entry n,
    )

-- a covered unit stands before the end
pub covered_below : (file : File) (entries : List Entry) (i : ℕ) → Covers entries file i → i < ends_in file entries 0
covered_below file [] i covers = absurd covers
covered_below file (entry ∷ entries) i (inl w) =
    omega (arith, ends_in_max file entries (end_in file entry 0), writes_below)
  where
    writes_below : i < end_in file entry 0
    writes_below = elim (cases_file file entry.file) as
        (λ c. i < ⊎_elim (λ (same : file ≡ entry.file). max 0 (entry.first + length entry.units))
        (λ (differ : file ≡ entry.file → ⊥). 0) c) [
          | inl same ↦ omega (arith, w.before)
          | inr differ ↦ absurd (differ (sym w.there))
        ]
covered_below file (entry ∷ entries) i (inr later) =
    omega (arith, covered_below file entries i later, ends_in_max file entries (end_in file entry 0))

-- ---- files within the entries

pub within_none : (entries : List Entry) (files : Files) → Within entries files files
within_none entries files = record {
  each = λ file i. inl refl;
  no_shorter = λ file. omega arith;
  no_longer = λ file. omega (arith, ends_in_max file entries (length (file_of file files)));
}

-- the entries give the same over files that they were written to in part
pub within_same : (entries : List Entry) (old new : Files) → Within entries old new
    → with_entries entries new ≡ with_entries entries old
within_same entries old new within = same_files (with_entries entries new) (with_entries entries old)
    (λ file. same_units (file_of file (with_entries entries new)) (file_of file (with_entries entries old))
    (omega (
      arith,
      length-entries entries new file,
      length-entries entries old file,
      ends_in_max file entries (length (file_of file new)),
      ends_in_max file entries (length (file_of file old)),
      within.no_shorter file,
      within.no_longer file,
    ))
    (λ i. ⊎_elim (entries_agree entries new old file i) (entries_cover entries new old file i) (within.each file i)))

-- all of them written are within them
pub written_within : (entries : List Entry) (files : Files) → Within entries files (with_entries entries files)
written_within entries files = record {
  each = λ file i. units entries files file i;
  no_shorter =
      λ file. omega (arith, length-entries entries files file, ends_in_max file entries (length (file_of file files)));
  no_longer = λ file. omega (arith, length-entries entries files file);
}
  where
    one : (entry : Entry) (files : Files) (file : File) (i : ℕ)
        → (unit_at (file_of file (with_entry entry files)) i ≡ unit_at (file_of file files) i)
        ⊎ HasUnit entry file i
    one entry files file i = elim (cases_file file entry.file) [
      | inr differ ↦ inl (ap (λ (u : Units). unit_at u i) (other_file file entry.file (here entry files) files differ))
      | inl same ↦ elim (cases_lt i entry.first) [
        | inl below ↦ inl (ap (λ (u : Units). unit_at u i) (written_file entry files file same)
            ∙ put_before entry.first entry.units
            (file_of file files) i below)
        | inr from ↦ elim (cases_lt i (entry.first + length entry.units)) [
          | inl inside ↦ inr (record { there = sym same; from = from; before = inside })
          | inr past ↦ inl (ap (λ (u : Units). unit_at u i) (written_file entry files file same)
              ∙ put_after entry.first entry.units
              (file_of file files) i past)
        ]
      ]
    ]

    units : (entries : List Entry) (files : Files) (file : File) (i : ℕ)
        → (unit_at (file_of file (with_entries entries files)) i
        ≡ unit_at (file_of file files) i) ⊎ Covers entries file i
    units [] files file i = inl refl
    units (entry ∷ entries) files file i =
        ⊎_elim (λ later. ⊎_elim (λ now. inl (later ∙ now)) (λ w. inr (inl w)) (one entry files file i))
        (λ c. inr (inr c)) (units entries (with_entry entry files) file i)

-- a further write in a range that the entries cover
pub within_changed : (entries : List Entry) (old mid new : Files) (file : File) (first end : ℕ) → first < end
    → ((i : ℕ) → first ≤ i → i < end → Covers entries file i)
    → Within entries old mid → IsChangedInRange file first end mid new → Within entries old new
within_changed entries old mid new file first end some covers within changed = record {
  each = λ f i. elim (cases_file f file) [
    | inr differ ↦ subst (λ (u : Units). (unit_at u i ≡ unit_at (file_of f old) i) ⊎ Covers entries f i)
        (sym (elsewhere f differ)) (within.each f i)
    | inl same ↦ subst (λ (g : File). (unit_at (file_of g new) i ≡ unit_at (file_of g old) i) ⊎ Covers entries g i)
        (sym same) (here_each i)
  ];
  no_shorter = λ f. elim (cases_file f file) [
    | inr differ ↦ omega (arith, ap length (elsewhere f differ), within.no_shorter f)
    | inl same ↦ subst (λ (g : File). length (file_of g old) ≤ length (file_of g new)) (sym same)
        (omega (arith, within.no_shorter file, changed.no_shorter))
  ];
  no_longer = λ f. elim (cases_file f file) [
    | inr differ ↦ omega (arith, ap length (elsewhere f differ), within.no_longer f)
    | inl same ↦ subst (λ (g : File). length (file_of g new) ≤ ends_in g entries (length (file_of g old))) (sym same)
        (omega (
          arith,
          within.no_longer file,
          changed.no_longer,
          covered_below file entries (end - 1) (covers (end - 1) (omega arith) (omega arith)),
          ends_in_max file entries (length (file_of file old)),
        ))
  ];
}
  where
    elsewhere : (f : File) → (f ≡ file → ⊥) → file_of f new ≡ file_of f mid
    elsewhere f differ =
        ap (λ (x : Files). file_of f x) changed.others ∙ other_file f file (file_of file new) mid differ

    here_each : (i : ℕ) → (unit_at (file_of file new) i ≡ unit_at (file_of file old) i) ⊎ Covers entries file i
    here_each i = elim (cases_lt i first) [
      | inl below ↦ ⊎_elim (λ same. inl (changed.each i (inl below) ∙ same)) (λ c. inr c) (within.each file i)
      | inr from ↦ elim (cases_lt i end) [
        | inl inside ↦ inr (covers i from inside)
        | inr past ↦ ⊎_elim (λ same. inl (changed.each i (inr past) ∙ same)) (λ c. inr c) (within.each file i)
      ]
    ]

pub within_then : (entries : List Entry) (a b c : Files) → Within entries a b → Within entries b c → Within entries a c
within_then entries a b c one two = record {
  each = λ file i. ⊎_elim (λ same. ⊎_elim (λ before. inl (same ∙ before)) (λ covers. inr covers) (one.each file i))
      (λ covers. inr covers) (two.each file i);
  no_shorter = λ file. omega (arith, one.no_shorter file, two.no_shorter file);
  no_longer = λ file. omega (
    arith,
    one.no_longer file,
    two.no_longer file,
    ends_in_max file entries (length (file_of file a)),
    ends_in_max file entries (length (file_of file b)),
  );
}
