-- The header of what is laid out.
use Rattle.std.proofs.Common.{◌≡◌, ℕ, suc, ◌+◌, ◌-◌, ◌*◌, ◌^◌, ◌<◌, ◌≤◌, List, [], ◌∷◌, ◌++◌, length, take, drop, true, false, Bool, le-ltb, Option, Some, None, Ok, refl, sym, ap, ◌∙◌, append_assoc, length-append, arith, inl, inr}
use Rattle.std.specs.Prelude.{if◌then◌else◌}
use Rattle.rpm_header.proofs.Vocabulary.{AllByRecursion, blob_of, counts_back, data_from, data_of, element_fault, entries, entry_fault, entry_of, fault_at}
use Rattle.rpm_header.proofs.Vocabulary.{form_fault, form_of, header, HeaderFault, index_bytes, index_entry, index_from, index_of, entry_in_index, IndexEntry}
use Rattle.rpm_header.proofs.Vocabulary.{is_region_tag, Item, laid_out, number_at, option_or, ReadsBack, region_fault, region_item, section_of, trailer}
use Rattle.rpm_header.proofs.Vocabulary.{trailer_entry, w32, with_region}
use Rattle.std.proofs.lemmas.Bool.{cases_eq}
use Rattle.std.proofs.lemmas.List.{drop_at, take_all, append-nil}
use Rattle.rpm_header.specs.declared.form.Form.TheVariants as form
use Rattle.rpm_header.proofs.Region.{counts}
use Rattle.rpm_header.proofs.Again.{Stands}
use Rattle.rpm_header.proofs.EntriesAgain.{entries_again, sound_again, form_sound, neither}
use Rattle.rpm_header.proofs.IndexAgain.{Fits, index_front}
use Rattle.rpm_header.proofs.LaidSections.{header_is, length-index_bytes, length-index_from, section_is}

-- ---- without a region

module _ (es : List Item) (each : AllByRecursion ReadsBack es) (few : length es ≤ 65535) (small : length (data_from 0 es) ≤ 67108864) where
  plain_stands : Stands (length es) (blob_of (length es) (index_from 0 es) (data_from 0 es)) 0 0 es
  plain_stands = record {
    each = each;
    index = (data_from 0 es, refl);
    stored = ([], [], refl, section_is (length es) (index_from 0 es) (data_from 0 es) few (length-index_from 0 es) small ∙ sym (append-nil (data_from 0 es)));
    small = omega arith;
  }

  plain_again : header (blob_of (length es) (index_from 0 es) (data_from 0 es))
      ≡ Ok (record { blob = blob_of (length es) (index_from 0 es) (data_from 0 es); entries = es })
  unfolding entries
  plain_again =
      let blob = blob_of (length es) (index_from 0 es) (data_from 0 es) in
      header_is (length es) (index_from 0 es) (data_from 0 es) few (length-index_from 0 es) small es
      (λ k below. sound_again es (length es) blob 0 0 plain_stands k (omega arith) (omega arith))
      (entries_again es (length es) blob 0 0 plain_stands)

-- ---- with a region

trailer_fits : (n : ℕ) → 0 < n → Fits (trailer_entry n)
trailer_fits n some = record { tag = omega arith; kind = omega arith; offset = omega arith; count = omega arith }

pub no_region_fault : (n : ℕ) (i : IndexEntry) (bytes : List ℕ) → i.kind ≡ 7 → i.count ≡ 16 → counts_back n (number_at w32 bytes (i.offset + 8)) ≡ true
    → region_fault n i bytes ≡ None
no_region_fault n i bytes kind count back = rw (kind, count, back) refl

module _ (es : List Item) (each : AllByRecursion ReadsBack es) (few : suc (length es) ≤ 65535) (small : length (data_of true es) ≤ 67108864) where
  abbrev il : ℕ
  il = suc (length es)

  abbrev entries_number : ℕ
  entries_number = suc (length es)

  abbrev section : List ℕ
  section = data_of true es

  abbrev o : ℕ
  o = length (data_from 0 es)

  abbrev blob : List ℕ
  blob = blob_of il (index_of true es) section

  abbrev first_entry : IndexEntry
  first_entry = entry_in_index o (region_item entries_number)

  size : length section ≡ o + 16
  size = omega (arith, length-append (data_from 0 es) (trailer entries_number), length-index_bytes (trailer_entry entries_number))

  sixteen : length (index_of true es) ≡ 16 * il
  sixteen = omega (arith, length-append (index_bytes first_entry) (index_from 0 es), length-index_bytes first_entry, length-index_from 0 es)

  own : section_of il blob ≡ section
  own = section_is il (index_of true es) section few sixteen small

  in_front : (index_entry il blob 0 ≡ first_entry) × (drop 24 blob ≡ index_from 0 es ++ section)
  in_front =
      index_front blob (index_from 0 es ++ section) 8 first_entry
      (record { tag = omega arith; kind = omega arith; offset = omega (arith, size); count = omega arith })
      (append_assoc (index_bytes first_entry) (index_from 0 es) section)

  at_end : drop o section ≡ trailer entries_number
  at_end = drop_at (data_from 0 es) (trailer entries_number) o refl

  region_read : entry_of first_entry section ≡ region_item entries_number
  unfolding entry_of
  region_read =
      let all : take 16 (trailer entries_number) ≡ trailer entries_number =
      take_all 16 (trailer entries_number) (omega (arith, length-index_bytes (trailer_entry entries_number))) in
      rw (at_end, all) refl

  first_read : entry_of (index_entry il blob 0) (section_of il blob) ≡ region_item entries_number
  first_read = ap (λ (i : IndexEntry). entry_of i (section_of il blob)) in_front.0 ∙ ap (entry_of first_entry) own ∙ region_read

  counted : number_at w32 section (o + 8) ≡ 2 ^ 32 - 16 * entries_number
  counted =
      ap (λ (i : IndexEntry). i.offset) (index_front section [] o (trailer_entry entries_number) (trailer_fits entries_number (omega arith)) (at_end
      ∙ sym (append-nil (trailer entries_number)))).0

  -- the fault of entry 0, told by its index entry and the data
  abbrev fault_of : IndexEntry → List ℕ → Option HeaderFault
  fault_of i bytes = option_or (form_fault (form_of i.kind) 0 i bytes) (if is_region_tag i.tag then region_fault il i bytes else None)

  region_sound : fault_of first_entry section ≡ None
  region_sound =
      let there : length (drop o section) ≡ 16 = ap length at_end ∙ length-index_bytes (trailer_entry entries_number) in
      let element : element_fault form.Bin 0 16 (drop o section) ≡ None = rw (le-ltb (length (drop o section)) 16 (omega arith)) refl in
      let bin : form_fault (Some form.Bin) 0 first_entry section ≡ None =
      form_sound form.Bin 0 first_entry section (omega (arith, size)) (omega arith) (λ h. cc) element in
      let back : counts_back il (2 ^ 32 - 16 * entries_number) ≡ true =
      counts il (2 ^ 32 - 16 * entries_number) entries_number (omega arith) (omega arith) (omega arith) in
      neither _ _ bin (no_region_fault il first_entry section refl refl (ap (counts_back il) counted ∙ back))

  first_sound : fault_at il blob 0 ≡ None
  unfolding fault_at entry_fault
  first_sound = ap (λ (i : IndexEntry). fault_of i (section_of il blob)) in_front.0 ∙ ap (fault_of first_entry) own ∙ region_sound

  region_stands : Stands il blob 1 0 es
  region_stands = record {
    each = each;
    index = (section, in_front.1);
    stored = ([], trailer entries_number, refl, own);
    small = omega (arith, size);
  }

  region_again : header blob ≡ Ok (record { blob = blob; entries = region_item entries_number ∷ es })
  unfolding entries
  region_again =
      header_is il (index_of true es) section few sixteen small (region_item entries_number ∷ es)
      (λ k below. elim (cases_eq 0 k) [
        | inl same ↦ (rw (← same) first_sound)
        | inr other ↦ (sound_again es il blob 1 0 region_stands k (omega arith) (omega arith))
      ])
      (rw (first_read, entries_again es il blob 1 0 region_stands) refl)

-- ---- the law

pub laid_again : (region : Bool) (es : List Item) → AllByRecursion ReadsBack es → length (with_region region es) ≤ 65535 → length (data_of region es) ≤ 67108864
    → header (laid_out region es) ≡ Ok (record { blob = laid_out region es; entries = with_region region es })
unfolding laid_out
laid_again false es each few small = plain_again es each few small
laid_again true es each few small = region_again es each few small
