-- The region of a header lies in it, and what is hashed of it.
use Rattle.std.proofs.Common.{◌≡◌, ℕ, ◌+◌, ◌-◌, ◌*◌, ◌/◌, ◌%◌, ◌^◌, ◌<◌, ◌≤◌, List, [], ◌∷◌, ◌++◌, length, take, drop, map, true, eqb, leb, Some, None, refl, sym, ap, subst, ◌∙◌, length-drop, arith, inl, inr}
use Rattle.std.specs.Prelude.{slice_get}
use Rattle.rpm_header.proofs.Vocabulary.{begins_with, counts_back, form_fault, form_of, Header, header_in_file, index_entry, index_entry_at, IndexEntry}
use Rattle.rpm_header.proofs.Vocabulary.{is_region_tag, Item, magic, number_at, own_data, own_index, region_entries, region_entry, region_fault}
use Rattle.rpm_header.proofs.Vocabulary.{region_in_file, to_be_bytes, w32}
use Rattle.std.proofs.lemmas.Bool.{eqb-true, leb-true}
use Rattle.std.proofs.lemmas.Bool.Decides.{leb_tells, eqb_tells}
use Rattle.std.proofs.lemmas.List.{length-take-le}
use Rattle.rpm_header.proofs.Cut.{number_in_front}
use Rattle.rpm_header.proofs.Each.{tag-entries}
use Rattle.rpm_header.proofs.Region.{counted, not_counted}
use Rattle.rpm_header.proofs.Opened.{IsOpened}
use Rattle.rpm_header.proofs.RegionLonger.{fault_is, none_of, number_behind, is_region, trailer_room}

pub message : (a b d i s : List ℕ) (n size : ℕ) → a ≡ magic → b ≡ to_be_bytes w32 n → d ≡ to_be_bytes w32 size
    → [] ++ a ++ b ++ d ++ i ++ s ≡ header_in_file n size i s
message a b d i s n size ia ib id = rw (ia, ib, id) refl

-- the number of entries that a trailer counts back
counted_small : (il n : ℕ) → n < 2 ^ 32 → counts_back il n ≡ true → (2 ^ 32 - n) / 16 ≤ il
counted_small il n small back =
    let below : n + (2 ^ 32 - n) ≡ 2 ^ 32 = omega arith in
    elim (eqb_tells ((2 ^ 32 - n) % 16) 0) [
      | inl whole ↦ (
          let test : leb ((2 ^ 32 - n) / 16) il ≡ true = counted il n (2 ^ 32 - n) below (omega arith) whole.1 ∙ back in
          leb-true ((2 ^ 32 - n) / 16) il test
          )
      | inr odd ↦ (
          let test : eqb ((2 ^ 32 - n) % 16) 0 ≡ true = not_counted il n (2 ^ 32 - n) below odd.1 ∙ back in
          absurd (odd.1 (eqb-true ((2 ^ 32 - n) % 16) 0 test))
          )
    ]

counted_back : (il n : ℕ) → counts_back il n ≡ true → (2 ^ 32 - n) / 16 ≤ il
counted_back il n back = elim (leb_tells (2 ^ 32) n) [
  | inl large ↦ (omega arith)
  | inr small ↦ (counted_small il n small.1 back)
]

-- ---- the region of a header that begins with one

pub record RegionFits (h : Header) : Type 0 where
  pub some : 16 ≤ length (own_index h)
  pub trailer : (region_entry h).offset + 16 ≤ length (own_data h)
  pub few : region_entries h ≤ length h.entries

first_tag : (es : List Item) (n : ℕ) → begins_with 63 es ≡ true → slice_get (map (λ e. e.tag) es) 0 ≡ Some n → (n ≡ 63) × (0 < length es)
first_tag [] n begins at = absurd cc
first_tag (e ∷ es) n begins at =
    let tag : e.tag ≡ 63 = eqb-true e.tag 63 begins in
    let same : e.tag ≡ n = cc in
    (sym same ∙ tag, omega arith)

some_entries : (es : List Item) → begins_with 63 es ≡ true → 0 < length es
some_entries [] begins = absurd cc
some_entries (e ∷ es) begins = omega arith

module _ (h : Header) (o : IsOpened h) (begins : begins_with 63 h.entries ≡ true) where
  abbrev il : ℕ
  il = length h.entries

  abbrev first : IndexEntry
  first = index_entry il h.blob 0

  some : 0 < il
  some = some_entries h.entries begins

  tag_is : first.tag ≡ 63
  tag_is =
      let tags = ap (λ (es : List Item). slice_get (map (λ (e : Item). e.tag) es) 0) o.same ∙ tag-entries il h.blob 0 some in
      (first_tag h.entries first.tag begins tags).0

  number_is : (m : ℕ) → m + 4 ≤ 16 → number_at w32 (own_index h) m ≡ number_at w32 h.blob (8 + m)
  number_is m within = number_in_front (16 * il) m (drop 8 h.blob) (omega (arith, some)) ∙ sym (number_behind h.blob (8 + m) m refl)

  entry_is : region_entry h ≡ first
  entry_is = rw (number_is 0 (omega arith), number_is 4 (omega arith), number_is 8 (omega arith), number_is 12 (omega arith)) refl

  no_faults : (form_fault (form_of first.kind) 0 first (own_data h) ≡ None) × (region_fault il first (own_data h) ≡ None)
  no_faults =
      let parts = none_of _ _ (sym (fault_is il h.blob 0) ∙ o.sound.faultless 0 some) in
      let region : is_region_tag first.tag ≡ true = rw tag_is refl in
      (parts.0, rw region at parts.1)

  pub region_fits : RegionFits h
  region_fits =
      let r = is_region il first (own_data h) no_faults.1 in
      let room = trailer_room 0 il first (own_data h) no_faults.0 r in
      let offset : (region_entry h).offset ≡ first.offset = ap (λ (i : IndexEntry). i.offset) entry_is in
      let size : length (own_index h) ≡ 16 * il = length-take-le (16 * il) (drop 8 h.blob) (omega (arith, o.sound.cut.whole, length-drop 8 h.blob)) in
      record {
        some = omega (arith, some, size);
        trailer = omega (arith, room, offset);
        few =
            subst (λ (at : ℕ). (2 ^ 32 - number_at w32 (own_data h) (at + 8)) / 16 ≤ il) (sym offset)
            (counted_back il (number_at w32 (own_data h) (first.offset + 8)) r.back);
      }

-- what the code reads of it
pub record ReadsRegion (h : Header) (index section : List ℕ) (region trailer : IndexEntry) : Type 0 where
  pub offset : region.offset ≡ (region_entry h).offset
  pub entries : (2 ^ 32 - trailer.offset) / 16 ≡ region_entries h
  pub hashed : header_in_file ((2 ^ 32 - trailer.offset) / 16) (region.offset + 16) (take (16 * ((2 ^ 32 - trailer.offset) / 16)) index)
      (take (region.offset + 16) section) ≡ region_in_file h

pub reads_region : (h : Header) (index section : List ℕ) (region trailer : IndexEntry) → index ≡ own_index h → section ≡ own_data h
    → region ≡ index_entry_at index 0 → trailer ≡ index_entry_at section region.offset → ReadsRegion h index section region trailer
reads_region h index section region trailer ii is ir it = record {
  offset = rw (ir, ii) refl;
  entries = rw (it, ir, is, ii) refl;
  hashed = rw (it, ir, is, ii) refl;
}
