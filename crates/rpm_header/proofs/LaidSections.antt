-- Two lengths, an index and data.
use Rattle.std.proofs.Common.{◌≡◌, ℕ, ◌+◌, ◌*◌, ◌<◌, ◌≤◌, List, [], ◌∷◌, ◌++◌, length, take, le-ltb, None, Ok, refl, sym, ◌∙◌, length-append, arith}
use Rattle.rpm_header.proofs.Vocabulary.{blob_of, end_of_data, entries, fault_at, header, header_of, index_bytes, index_from, entry_in_index, IndexEntry, Item, number_at}
use Rattle.rpm_header.proofs.Vocabulary.{offset_of, section_of, to_be_bytes, w32}
use Rattle.std.proofs.lemmas.List.{drop_at, drop-drop, take_all}
use Rattle.rpm_header.proofs.Each.{first_none}
use Rattle.rpm_header.proofs.IndexAgain.{read_front}

pub length-index_bytes : (i : IndexEntry) → length (index_bytes i) ≡ 16
unfolding index_bytes
length-index_bytes i = refl

pub length-index_from : (at : ℕ) (es : List Item) → length (index_from at es) ≡ 16 * length es
unfolding index_from
length-index_from at [] = refl
length-index_from at (e ∷ es) =
    let i = entry_in_index (offset_of at e) e in
    omega (arith, length-index_from (end_of_data at e) es, length-append (index_bytes i) (index_from (end_of_data at e) es), length-index_bytes i)

module _ (n : ℕ) (index section : List ℕ) (few : n ≤ 65535) (sixteen : length index ≡ 16 * n) (small : length section ≤ 67108864) where
  pub front_is : number_at w32 (blob_of n index section) 0 ≡ n
  front_is = read_front n (blob_of n index section) (to_be_bytes w32 (length section) ++ (index ++ section)) 0 (omega arith) refl

  pub size_is : number_at w32 (blob_of n index section) 4 ≡ length section
  size_is = read_front (length section) (blob_of n index section) (index ++ section) 4 (omega arith) refl

  pub blob_length : length (blob_of n index section) ≡ 8 + 16 * n + length section
  blob_length = omega (arith, length-append index section)

  pub section_is : section_of n (blob_of n index section) ≡ section
  section_is = sym (drop-drop (16 * n) 8 (blob_of n index section)) ∙ drop_at index section (16 * n) sixteen

  -- where no entry has a fault, these are the header
  pub header_is : (es : List Item) → ((k : ℕ) → k < n → fault_at n (blob_of n index section) k ≡ None) → entries n (blob_of n index section) ≡ es
      → header (blob_of n index section) ≡ Ok (record { blob = blob_of n index section; entries = es })
  unfolding header header_of
  header_is es sound same =
      let blob = blob_of n index section in
      let whole : take (8 + 16 * n + length section) blob ≡ blob = take_all (8 + 16 * n + length section) blob (omega (arith, blob_length)) in
      rw (
        front_is,
        size_is,
        le-ltb (length blob) 8 (omega (arith, blob_length)),
        le-ltb 65535 n few,
        le-ltb 67108864 (length section) small,
        le-ltb (length blob) (8 + 16 * n + length section) (omega (arith, blob_length)),
        whole,
        first_none n (fault_at n blob) sound,
        same,
      ) refl
