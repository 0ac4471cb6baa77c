-- Entries after a header in two layers are those of one.
use Rattle.std.specs.Prelude.{nat_lt, replicate, if◌then◌else◌}
use Rattle.std.specs.Int.{w32}
use Rattle.std.proofs.Common.{◌≡◌, ℕ, ◌+◌, ◌-◌, ◌*◌, ◌≤◌, List, [], ◌∷◌, ◌++◌, Bool, true, false, Option, Some, None}
use Rattle.std.proofs.Common.{Result, Ok, Err, length, take, drop, refl, sym, ap, ◌∙◌, append_assoc, length-append}
use Rattle.std.proofs.Common.{length-drop, arith, lt-ltb, inl, inr}
use Rattle.std.proofs.lemmas.Bool.{cases_Bool, ltb-false, ltb-true, or_cases, or_left, or_right}
use Rattle.std.proofs.lemmas.List.{drop_at, drop-drop, length-replicate, length-take-le, take_at}
use Rattle.std.proofs.lemmas.List.FromFn.{length-map-range_with_len}
use Rattle.rpm_header.specs.Bytes.{number_at}
use Rattle.rpm_header.specs.Header.{entries, entry_of, fault_at, first as first_fault, Header, header, header_of}
use Rattle.rpm_header.specs.Header.{index_entry, Item, section_of}
use Rattle.rpm_header.specs.declared.form.HeaderFault.{HeaderFault}
use Rattle.rpm_header.specs.declared.form.HeaderFault.TheVariants.{Short, TooManyEntries, TooMuchData}
use Rattle.rpm_header.specs.declared.index.IndexEntry.{IndexEntry}
use Rattle.rpm_header.specs.Dribbles.{dribbled_blob, dribbled_data}
use Rattle.rpm_header.specs.Laid.{blob_of, entry_bytes, data_from, index_bytes, index_from, offset_of}
use Rattle.rpm_header.specs.laws.Words.{dribbled_index, each_below, end_of_data, entry_in_index, unless}
use Rattle.rpm_header.specs.Parts.{own_data, own_index}
use Rattle.rpm_file.specs.inner.Joining.{HasIndexBytes, passes_limits}
use Rattle.rpm_file.specs.Merging.{and_entries, header_with_entries}

-- ---- the data and the index of entries, of which some come first

-- an entry's data begin where those before it end, or later
offset_behind : (at : ℕ) (e : Item) → at ≤ offset_of at e
unfolding offset_of
offset_behind at e = omega arith

-- the data of all end where those of the others end after the first
end_from : (at : ℕ) (e : Item) (es : List Item)
    → at + length (data_from at (e ∷ es)) ≡ end_of_data at e + length (data_from (end_of_data at e) es)
unfolding data_from
end_from at e es =
    let zeros : List ℕ = replicate (offset_of at e - at) 0 in
    omega (
      arith,
      length-append (zeros ++ entry_bytes e) (data_from (end_of_data at e) es),
      length-append zeros (entry_bytes e),
      length-replicate {A = ℕ} (offset_of at e - at) 0,
      offset_behind at e,
    )

-- the data of the later ones stand after those of the earlier ones
data_apart : (at : ℕ) (a b : List Item) → data_from at (a ++ b) ≡ data_from at a
    ++ data_from (at + length (data_from at a)) b
unfolding data_from
data_apart at [] b = ap (λ (n : ℕ). data_from n b) (omega arith)
data_apart at (e ∷ es) b =
    let zeros : List ℕ = replicate (offset_of at e - at) 0 in
    let later = data_from (end_of_data at e + length (data_from (end_of_data at e) es)) b in
    ap (λ (bs : List ℕ). zeros ++ entry_bytes e ++ bs) (data_apart (end_of_data at e) es b)
    ∙ sym (append_assoc (zeros ++ entry_bytes e) (data_from (end_of_data at e) es) later)
    ∙ ap (λ (n : ℕ). data_from at (e ∷ es) ++ data_from n b) (sym (end_from at e es))

-- so does their index
index_apart : (at : ℕ) (a b : List Item) → index_from at (a ++ b) ≡ index_from at a
    ++ index_from (at + length (data_from at a)) b
unfolding index_from data_from
index_apart at [] b = ap (λ (n : ℕ). index_from n b) (omega arith)
index_apart at (e ∷ es) b =
    let first = index_bytes (entry_in_index (offset_of at e) e) in
    let later = index_from (end_of_data at e + length (data_from (end_of_data at e) es)) b in
    ap (λ (bs : List ℕ). first ++ bs) (index_apart (end_of_data at e) es b)
    ∙ sym (append_assoc first (index_from (end_of_data at e) es) later)
    ∙ ap (λ (n : ℕ). index_from at (e ∷ es) ++ index_from n b) (sym (end_from at e es))

-- sixteen bytes for each entry
length-index_bytes : (i : IndexEntry) → length (index_bytes i) ≡ 16
unfolding index_bytes
length-index_bytes i = refl

length-index_from : (at : ℕ) (es : List Item) → length (index_from at es) ≡ 16 * length es
unfolding index_from
length-index_from at [] = refl
length-index_from at (e ∷ es) =
    let i = entry_in_index (offset_of at e) e in
    omega (
      arith,
      length-index_from (end_of_data at e) es,
      length-append (index_bytes i)
          (index_from (end_of_data at e) es),
      length-index_bytes i,
    )

-- ---- the limits, which more entries and data pass where fewer do

more_pass : (n m size room : ℕ) → n ≤ m → size ≤ room → passes_limits n size ≡ true → passes_limits m room ≡ true
more_pass n m size room le small is = elim (or_cases (nat_lt 65535 n) (nat_lt 67108864 size) is) [
  | inl many ↦ or_left (nat_lt 65535 m) (nat_lt 67108864 room)
      (lt-ltb 65535 m (omega (arith, le, ltb-true 65535 n many)))
  | inr much ↦ or_right (nat_lt 65535 m) (nat_lt 67108864 room)
      (lt-ltb 67108864 room (omega (arith, small, ltb-true 67108864 size much)))
]

-- ---- a header that was read

-- a test that gave no fault didn't hold
passes : {X : Type 0} (test : Bool) (e : HeaderFault) (r : Result X HeaderFault) (x : X)
    → (if test then Err e else r) ≡ Ok x → (test ≡ false) × (r ≡ Ok x)
passes true e r x is = absurd cc
passes false e r x is = (refl, is)

-- what has no fault is the answer
kept : {X : Type 0} (fault : Option HeaderFault) (x y : X) → unless fault x ≡ Ok y → x ≡ y
kept None x y is = cc
kept (Some e) x y is = absurd cc

-- it has as many entries as it says
length-entries : (il : ℕ) (blob : List ℕ) → length (entries il blob) ≡ il
unfolding entries
length-entries il blob =
    length-map-range_with_len (λ (i : ℕ). entry_of (index_entry il blob i) (section_of il blob)) 0 il

-- its own bytes have its two lengths and its index
pub has_index : (bytes : List ℕ) (h : Header) → header bytes ≡ Ok h → HasIndexBytes h
unfolding header header_of
has_index bytes h is =
    let il = number_at w32 bytes 0 in
    let dl = number_at w32 bytes 4 in
    let own = take (8 + 16 * il + dl) bytes in
    let long = passes (nat_lt (length bytes) 8) Short _ h is in
    let few = passes (nat_lt 65535 il) TooManyEntries _ h long.1 in
    let small = passes (nat_lt 67108864 dl) TooMuchData _ h few.1 in
    let whole = passes (nat_lt (length bytes) (8 + 16 * il + dl)) Short (header_of il own) h small.1 in
    let same = kept (first_fault (each_below il (fault_at il own)))
    (record { blob = own; entries = entries il own }) h whole.1 in
    let number : il ≡ length h.entries = sym (length-entries il own) ∙ ap (λ (x : Header). length x.entries) same in
    let size = length-take-le (8 + 16 * il + dl) bytes (ltb-false (length bytes) (8 + 16 * il + dl) whole.0) in
    omega (arith, number, size, ap (λ (x : Header). length x.blob) same)

-- ---- a header of entries in two layers

module _ (h : Header) (a b : List Item) (room : HasIndexBytes h) where
  abbrev il : ℕ
  il = length h.entries

  abbrev size : ℕ
  size = length (own_data h)

  -- the header of the first layer
  abbrev first_layer : Header
  first_layer = record { blob = dribbled_blob h a; entries = h.entries ++ a }

  own_sixteen : length (own_index h) ≡ 16 * il
  own_sixteen = length-take-le (16 * il) (drop 8 h.blob) (omega (arith, room, length-drop 8 h.blob))

  sixteen : length (dribbled_index h a) ≡ 16 * (il + length a)
  sixteen = omega (arith, length-append (own_index h) (index_from size a), own_sixteen, length-index_from size a)

  -- its data and its index are those that were laid out
  first_data : own_data first_layer ≡ dribbled_data h a
  unfolding dribbled_blob
  first_data = rw (length-append h.entries a)
      (sym (drop-drop (16 * (il + length a)) 8 (dribbled_blob h a))
      ∙ drop_at (dribbled_index h a) (dribbled_data h a) (16 * (il + length a)) sixteen)

  first_index : own_index first_layer ≡ dribbled_index h a
  unfolding dribbled_blob
  first_index =
      rw (length-append h.entries a) (take_at (dribbled_index h a) (dribbled_data h a) (16 * (il + length a)) sixteen)

  behind : size + length (data_from size a) ≡ length (dribbled_data h a)
  behind = sym (length-append (own_data h) (data_from size a))

  data_once : dribbled_data first_layer b ≡ dribbled_data h (a ++ b)
  data_once =
      ap (λ (bs : List ℕ). bs ++ data_from (length bs) b) first_data
      ∙ append_assoc (own_data h) (data_from size a) (data_from (length (dribbled_data h a)) b)
      ∙ ap (λ (n : ℕ). own_data h ++ (data_from size a ++ data_from n b)) (sym behind)
      ∙ ap (λ (bs : List ℕ). own_data h ++ bs) (sym (data_apart size a b))

  index_once : dribbled_index first_layer b ≡ dribbled_index h (a ++ b)
  index_once =
      ap (λ (bs : List ℕ). bs ++ index_from (length (own_data first_layer)) b) first_index
      ∙ ap (λ (bs : List ℕ). dribbled_index h a ++ index_from (length bs) b) first_data
      ∙ append_assoc (own_index h) (index_from size a) (index_from (length (dribbled_data h a)) b)
      ∙ ap (λ (n : ℕ). own_index h ++ (index_from size a ++ index_from n b)) (sym behind)
      ∙ ap (λ (bs : List ℕ). own_index h ++ bs) (sym (index_apart size a b))

  count_once : length first_layer.entries + length b ≡ il + length (a ++ b)
  count_once = omega (arith, length-append h.entries a, length-append a b)

  -- so the whole is laid out as at once
  once : dribbled_blob first_layer b ≡ dribbled_blob h (a ++ b)
  unfolding dribbled_blob
  once =
      ap (λ (n : ℕ). blob_of n (dribbled_index first_layer b) (dribbled_data first_layer b)) count_once
      ∙ ap (λ (bs : List ℕ). blob_of (il + length (a ++ b)) bs (dribbled_data first_layer b)) index_once
      ∙ ap (λ (bs : List ℕ). blob_of (il + length (a ++ b)) (dribbled_index h (a ++ b)) bs) data_once

  -- the second layer passes the limits where all entries do
  same_limits : passes_limits (length first_layer.entries + length b) (length (dribbled_data first_layer b))
      ≡ passes_limits (il + length (a ++ b)) (length (dribbled_data h (a ++ b)))
  same_limits =
      ap (λ (n : ℕ). passes_limits n (length (dribbled_data first_layer b))) count_once
      ∙ ap (λ (bs : List ℕ). passes_limits (il + length (a ++ b)) (length bs)) data_once

  -- and where the first layer does, all entries do
  first_passes : passes_limits (il + length a) (length (dribbled_data h a)) ≡ true
      → passes_limits (il + length (a ++ b)) (length (dribbled_data h (a ++ b))) ≡ true
  first_passes =
      more_pass (il + length a) (il + length (a ++ b)) (length (dribbled_data h a)) (length (dribbled_data h (a ++ b)))
      (omega (arith, length-append a b))
      (omega (
        arith,
        ap length (sym data_once),
        ap length first_data,
        length-append (own_data first_layer)
            (data_from (length (own_data first_layer)) b),
      ))

-- entries after a header, and then others after these, are all of them after it, limits included
pub laid_once : (h : Header) (a b : List Item) → HasIndexBytes h
    → and_entries b (header_with_entries h a) ≡ header_with_entries h (a ++ b)
laid_once h a b room = elim (cases_Bool (passes_limits (length h.entries + length a) (length (dribbled_data h a)))) [
  | inl past ↦ rw (past, first_passes h a b room past) refl
  | inr fits ↦ rw (fits, same_limits h a b room, once h a b room, append_assoc h.entries a b) refl
]
