-- The header of a header with further entries after its own.
use Rattle.std.proofs.Common.{◌≡◌, ℕ, ◌+◌, ◌*◌, ◌<◌, ◌≤◌, List, [], ◌++◌, length, take, drop, map, None, Ok, refl, sym, ap, ◌∙◌, append_assoc, length-append, length-drop, arith, inl, inr}
use Rattle.rpm_header.proofs.Vocabulary.{AllByRecursion, blob_of, data_from, dribbled_blob, dribbled_data, dribbled_index, entries, entry_of, fault_at, Header}
use Rattle.rpm_header.proofs.Vocabulary.{header, index_entry, index_from, IndexEntry, Item, Lengths, own_data, own_index, range_with_len, ReadsBack}
use Rattle.rpm_header.proofs.Vocabulary.{section_of, to_be_bytes, w32}
use Rattle.std.proofs.lemmas.Bool.Decides.{leb_tells}
use Rattle.std.proofs.lemmas.List.{take_at, drop_at, drop-drop, append-nil, length-take-le}
use Rattle.rpm_header.proofs.Opened.{IsOpened}
use Rattle.rpm_header.proofs.Longer.{same_below}
use Rattle.rpm_header.proofs.EntryLonger.{entry_longer}
use Rattle.rpm_header.proofs.Again.{Stands}
use Rattle.rpm_header.proofs.EntriesAgain.{entries_again, sound_again}
use Rattle.rpm_header.proofs.LaidParts.{IsWithin}
use Rattle.rpm_header.proofs.LaidSections.{length-index_from, section_is, header_is}
use Rattle.rpm_header.proofs.RegionLonger.{fault_is, fault_of, map_split, none_of, number_kept, whole_longer}

-- ---- all of it

module _ (h : Header) (more : List Item) (o : IsOpened h) (each : AllByRecursion ReadsBack more) (few : length h.entries + length more ≤ 65535)
    (small : length (dribbled_data h more) ≤ 67108864) where
  abbrev il : ℕ
  il = length h.entries

  abbrev n : ℕ
  n = il + length more

  abbrev size : ℕ
  size = length (own_data h)

  abbrev blob : List ℕ
  blob = blob_of n (dribbled_index h more) (dribbled_data h more)

  pub own_sixteen : length (own_index h) ≡ 16 * il
  own_sixteen = length-take-le (16 * il) (drop 8 h.blob) (omega (arith, o.sound.cut.whole, length-drop 8 h.blob))

  sixteen : length (dribbled_index h more) ≡ 16 * n
  sixteen = omega (arith, length-append (own_index h) (index_from size more), own_sixteen, length-index_from size more)

  own : section_of n blob ≡ dribbled_data h more
  own = section_is n (dribbled_index h more) (dribbled_data h more) few sixteen small

  -- the two parts of what is laid out
  pub new_data : own_data (record { blob = dribbled_blob h more; entries = h.entries ++ more }) ≡ dribbled_data h more
  unfolding dribbled_blob
  new_data = rw (length-append h.entries more) own

  pub new_index : own_index (record { blob = dribbled_blob h more; entries = h.entries ++ more }) ≡ dribbled_index h more
  unfolding dribbled_blob
  new_index = rw (length-append h.entries more) (take_at (dribbled_index h more) (dribbled_data h more) (16 * n) sixteen)

  behind : drop 8 blob ≡ own_index h ++ (index_from size more ++ dribbled_data h more)
  behind = append_assoc (own_index h) (index_from size more) (dribbled_data h more)

  front : take (16 * il) (drop 8 blob) ≡ take (16 * il) (drop 8 h.blob)
  front = ap (take (16 * il)) behind ∙ take_at (own_index h) (index_from size more ++ dribbled_data h more) (16 * il) own_sixteen

  entry_kept : (k : ℕ) → k < il → index_entry n blob k ≡ index_entry il h.blob k
  entry_kept k below =
      let tag = number_kept blob h.blob (16 * il) (8 + 16 * k) (16 * k) refl (omega arith) front in
      let kind = number_kept blob h.blob (16 * il) (8 + 16 * k + 4) (16 * k + 4) (omega arith) (omega arith) front in
      let offset = number_kept blob h.blob (16 * il) (8 + 16 * k + 8) (16 * k + 8) (omega arith) (omega arith) front in
      let count = number_kept blob h.blob (16 * il) (8 + 16 * k + 12) (16 * k + 12) (omega arith) (omega arith) front in
      rw (tag, kind, offset, count) refl

  was_faultless : (k : ℕ) → k < il → fault_of k il (index_entry il h.blob k) (own_data h) ≡ None
  was_faultless k below = sym (fault_is il h.blob k) ∙ o.sound.faultless k below

  kept_sound : (k : ℕ) → k < il → fault_at n blob k ≡ None
  kept_sound k below =
      fault_is n blob k
      ∙ ap (λ (i : IndexEntry). fault_of k n i (section_of n blob)) (entry_kept k below)
      ∙ ap (fault_of k n (index_entry il h.blob k)) own
      ∙ whole_longer k il (length more) (index_entry il h.blob k) (own_data h) (data_from size more) (was_faultless k below)

  item_kept : (k : ℕ) → k < il → entry_of (index_entry n blob k) (section_of n blob) ≡ entry_of (index_entry il h.blob k) (section_of il h.blob)
  item_kept k below =
      ap (λ (i : IndexEntry). entry_of i (section_of n blob)) (entry_kept k below)
      ∙ ap (entry_of (index_entry il h.blob k)) own
      ∙ entry_longer k (index_entry il h.blob k) (own_data h) (data_from size more) (none_of _ _ (was_faultless k below)).0

  stands : Stands n blob il size more
  stands = record {
    each = each;
    index = (
      dribbled_data h more,
      sym (drop-drop (16 * il) 8 blob) ∙ ap (drop (16 * il)) behind
          ∙ drop_at (own_index h) (index_from size more ++ dribbled_data h more) (16 * il) own_sixteen,
    );
    stored = (own_data h, [], refl, own ∙ ap (λ (b : List ℕ). own_data h ++ b) (sym (append-nil (data_from size more))));
    small = omega (arith, length-append (own_data h) (data_from size more));
  }

  all_sound : (k : ℕ) → k < n → fault_at n blob k ≡ None
  all_sound k below = elim (leb_tells (k + 1) il) [
    | inl first ↦ (kept_sound k (omega arith))
    | inr later ↦ (sound_again more n blob il size stands k (omega arith) (omega arith))
  ]

  all_entries : entries n blob ≡ h.entries ++ more
  unfolding entries
  all_entries =
      let item = λ (k : ℕ). entry_of (index_entry n blob k) (section_of n blob) in
      let split : map item (range_with_len 0 n) ≡ map item (range_with_len 0 il) ++ map item (range_with_len il (length more)) =
      map_split item il (length more) in
      let first : map item (range_with_len 0 il) ≡ h.entries =
      same_below item (λ k. entry_of (index_entry il h.blob k) (section_of il h.blob)) 0 il (λ k from below. item_kept k (omega arith)) ∙ sym o.same in
      split ∙ rw (first, entries_again more n blob il size stands) refl

  pub dribbled_again : header (dribbled_blob h more) ≡ Ok (record { blob = dribbled_blob h more; entries = h.entries ++ more })
  unfolding dribbled_blob
  dribbled_again = header_is n (dribbled_index h more) (dribbled_data h more) few sixteen small (h.entries ++ more) all_sound all_entries

-- ---- the parts in the order in which they are written

joined_parts : (begun index more_index stored more_data a b c d : List ℕ) → a ≡ begun ++ index → b ≡ a ++ more_index → c ≡ b ++ stored → d ≡ c ++ more_data
    → d ≡ begun ++ (index ++ more_index) ++ (stored ++ more_data)
joined_parts begun index more_index stored more_data a b c d ia ib ic id = rw (id, ic, ib, ia) (simp append_assoc)

pub dribbled_parts : (h : Header) (more : List Item) (l : Lengths) (begun a b c d : List ℕ)
    → IsWithin (length h.entries + length more) (length (dribbled_data h more)) l
    → begun ≡ to_be_bytes w32 l.entries ++ to_be_bytes w32 l.size
    → a ≡ begun ++ own_index h → b ≡ a ++ index_from (length (own_data h)) more → c ≡ b ++ own_data h → d ≡ c ++ data_from (length (own_data h)) more
    → d ≡ dribbled_blob h more
unfolding dribbled_blob
dribbled_parts h more l begun a b c d w front ia ib ic id =
    let lengths : begun ≡ to_be_bytes w32 (length h.entries + length more) ++ to_be_bytes w32 (length (dribbled_data h more)) =
    front ∙ rw (w.entries, w.size) refl in
    joined_parts begun (own_index h) (index_from (length (own_data h)) more) (own_data h) (data_from (length (own_data h)) more) a b c d ia ib ic id
    ∙ ap (λ (f : List ℕ). f ++ dribbled_index h more ++ dribbled_data h more) lengths

-- the same, where each piece that is written is known by an equation of its own
pub dribbled_pieces : (h : Header) (more : List Item) (l : Lengths) (begun a b c d index section : List ℕ) (es fs : List Item)
    → IsWithin (length h.entries + length more) (length (dribbled_data h more)) l
    → begun ≡ to_be_bytes w32 l.entries ++ to_be_bytes w32 l.size
    → index ≡ own_index h → section ≡ own_data h → es ≡ more → fs ≡ more
    → a ≡ begun ++ index → b ≡ a ++ index_from (length section) es → c ≡ b ++ section → d ≡ c ++ data_from (length section) fs
    → d ≡ dribbled_blob h more
dribbled_pieces h more l begun a b c d index section es fs w front is ss ie fe ia ib ic id =
    dribbled_parts h more l begun a b c d w front (ia ∙ ap (λ (x : List ℕ). begun ++ x) is)
    (ib ∙ ap (λ (x : List ℕ). a ++ index_from (length x) es) ss ∙ ap (λ (x : List Item). a ++ index_from (length (own_data h)) x) ie)
    (ic ∙ ap (λ (x : List ℕ). b ++ x) ss)
    (id ∙ ap (λ (x : List ℕ). c ++ data_from (length x) fs) ss ∙ ap (λ (x : List Item). c ++ data_from (length (own_data h)) x) fe)

-- what is written is the header, which is read again
pub dribbled_written : (h : Header) (more : List Item) (l : Lengths) (blob : List ℕ) → IsOpened h → AllByRecursion ReadsBack more
    → IsWithin (length h.entries + length more) (length (dribbled_data h more)) l → blob ≡ dribbled_blob h more
    → header blob ≡ Ok (record { blob = blob; entries = h.entries ++ more })
dribbled_written h more l blob o each w is = rw is (dribbled_again h more o each w.few w.small)
