-- One run more among the entries, and all of them.
use Rattle.std.proofs.Common.{◌≡◌, inl, inr, ℕ, ◌+◌, ◌-◌, ◌<◌, ◌≤◌, List, [], ◌∷◌, ◌++◌, length, refl, sym, ap, ◌∙◌, arith, true, false}
use Rattle.std.specs.Prelude.{Option, Some, None, is_some, unwrap_or}
use Rattle.std.proofs.lemmas.Bool.{cases_lt}
use Rattle.std.proofs.lemmas.List.{length_push}
use Rattle.rpm_group.proofs.Vocabulary.{AreHeld, begins_run, blank, count_below, Covers, Entry, File, file_of, file_of-with, Files, held_at, is_held}
use Rattle.rpm_group.proofs.Vocabulary.{length-put, EntriesOfTable, other_file, with_units, put_after, put_before, put_inside, run_entry, Table, unit_at, unit_over, Units}
use Rattle.rpm_group.proofs.Vocabulary.{with_entries}
use Rattle.rpm_group.proofs.Orders.{runs_more, runs_push}
use Rattle.rpm_group.proofs.Applied.{with_entries-append}
use Rattle.rpm_group.proofs.Runs.{length-units_held, unit_at-units_held}

pub covers_before : (es fs : List Entry) (file : File) (i : ℕ) → Covers es file i → Covers (es ++ fs) file i
covers_before [] fs file i covers = absurd covers
covers_before (e ∷ es) fs file i (inl w) = inl w
covers_before (e ∷ es) fs file i (inr c) = inr (covers_before es fs file i c)

pub covers_behind : (es fs : List Entry) (file : File) (i : ℕ) → Covers fs file i → Covers (es ++ fs) file i
covers_behind [] fs file i covers = covers
covers_behind (e ∷ es) fs file i covers = inr (covers_behind es fs file i covers)

pub unheld_is : (o : Option (List ℕ)) → is_some o ≡ false → o ≡ None
unheld_is None is = refl
unheld_is (Some u) is = absurd (let e : true ≡ false = is in cc)

held_is : (o : Option (List ℕ)) (a b : List ℕ) → is_some o ≡ true → unwrap_or o a ≡ unwrap_or o b
held_is None a b is = absurd (let e : false ≡ true = is in cc)
held_is (Some u) a b is = refl

-- a unit that isn't held is the file's
pub unheld_over : (table : Table) (file : Units) (i : ℕ) → is_held table i ≡ false → unit_over table file i ≡ unit_at file i
unheld_over table file i none = ap (λ (o : Option (List ℕ)). unwrap_or o (unit_at file i)) (unheld_is (held_at table i) none)

pub logged_none : (file : File) (table : Table) → count_below (begins_run table) 0 ≡ 0 → EntriesOfTable [] file table 0
logged_none file table none = record {
  covers = λ i below held. absurd (omega (arith, below));
  units = λ files i below. absurd (omega (arith, below));
  rest = λ files i from. refl;
  others = λ files other differ. refl;
  end = 0;
  long = λ files. omega arith;
  end_below = omega arith;
  gap = λ i from below. absurd (omega (arith, from, below));
  count = sym none;
  runs = omega arith;
}

module _ (entries : List Entry) (file : File) (table : Table) (at first : ℕ) (so_far : EntriesOfTable entries file table at) (low : at ≤ first)
    (between : (i : ℕ) → at ≤ i → i < first → is_held table i ≡ false) where
  -- units that aren't held need no entry
  pub logged_gap : count_below (begins_run table) first ≡ count_below (begins_run table) at → EntriesOfTable entries file table first
  logged_gap counted = record {
    covers = λ i below held. elim (cases_lt i at) [
      | inl before ↦ so_far.covers i before held
      | inr past ↦ absurd (let e : true ≡ false = sym held ∙ between i past below in cc)
    ];
    units = λ files i below. elim (cases_lt i at) [
      | inl before ↦ so_far.units files i before
      | inr past ↦ so_far.rest files i past ∙ sym (unheld_over table (file_of file files) i (between i past below))
    ];
    rest = λ files i from. so_far.rest files i (omega (arith, from, low));
    others = so_far.others;
    end = so_far.end;
    long = so_far.long;
    end_below = omega (arith, so_far.end_below, low);
    gap = λ i from below. elim (cases_lt i at) [
      | inl before ↦ so_far.gap i from before
      | inr past ↦ between i past below
    ];
    count = so_far.count ∙ sym counted;
    runs = runs_more file 0 at first entries so_far.runs low;
  }

  module _ (stop : ℕ) (some : first < stop) (held : AreHeld table first stop) where
    abbrev entry : Entry
    entry = run_entry file table first stop

    abbrev all : List Entry
    all = entries ++ entry ∷ []

    long_entry : length entry.units ≡ stop - first
    long_entry = length-units_held table first (stop - first)

    written : (files : Files) → file_of file (with_entries all files) ≡ with_units first entry.units (file_of file (with_entries entries files))
    written files = ap (λ (f : Files). file_of file f) (with_entries-append entries (entry ∷ []) files)
        ∙ file_of-with file (with_units first entry.units (file_of file (with_entries entries files))) (with_entries entries files)

    -- one run more
    pub logged_more : count_below (begins_run table) stop ≡ count_below (begins_run table) at + 1 → EntriesOfTable all file table stop
    logged_more counted = record {
      covers = λ i below h. elim (cases_lt i at) [
        | inl before ↦ covers_before entries (entry ∷ []) file i (so_far.covers i before h)
        | inr past ↦ elim (cases_lt i first) [
          | inl gap ↦ absurd (let e : true ≡ false = sym h ∙ between i past gap in cc)
          | inr from ↦ covers_behind entries (entry ∷ []) file i (inl (record { there = refl; from = from; before = omega (arith, below, long_entry) }))
        ]
      ];
      units = λ files i below. elim (cases_lt i first) [
        | inl before ↦
            ap (λ (u : Units). unit_at u i) (written files)
            ∙ put_before first entry.units (file_of file (with_entries entries files)) i before
            ∙ elim (cases_lt i at) [
              | inl earlier ↦ so_far.units files i earlier
              | inr past ↦ so_far.rest files i past ∙ sym (unheld_over table (file_of file files) i (between i past before))
            ]
        | inr from ↦
            let k : ℕ = i - first in
            let place : i ≡ first + k = omega arith in
            let less : k < stop - first = omega arith in
            ap (λ (u : Units). unit_at u i) (written files)
            ∙ ap (λ (j : ℕ). unit_at (with_units first entry.units (file_of file (with_entries entries files))) j) place
            ∙ put_inside first entry.units (file_of file (with_entries entries files)) k (omega (arith, long_entry, less))
            ∙ unit_at-units_held table first (stop - first) k less
            ∙ ap (λ (j : ℕ). unwrap_or (held_at table j) blank) (sym place)
            ∙ held_is (held_at table i) blank (unit_at (file_of file files) i) (held i from below)
      ];
      rest = λ files i past.
          ap (λ (u : Units). unit_at u i) (written files)
          ∙ put_after first entry.units (file_of file (with_entries entries files)) i (omega (arith, long_entry, past))
          ∙ so_far.rest files i (omega (arith, past, low, some));
      others = λ files other differ.
          ap (λ (f : Files). file_of other f) (with_entries-append entries (entry ∷ []) files)
          ∙ other_file other file (with_units first entry.units (file_of file (with_entries entries files))) (with_entries entries files) differ
          ∙ so_far.others files other differ;
      end = stop;
      long = λ files. omega (
        arith,
        ap length (written files),
        length-put first entry.units (file_of file (with_entries entries files)),
        so_far.long
            files,
        long_entry,
        so_far.end_below,
      );
      end_below = omega arith;
      gap = λ i from below. absurd (omega (arith, from, below));
      count = length_push entries entry ∙ omega (arith, so_far.count, counted);
      runs = runs_push file 0 at stop entries entry so_far.runs refl low (omega (arith, long_entry));
    }
