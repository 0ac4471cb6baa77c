-- One row more.
use Rattle.std.proofs.Common.{◌≡◌, ℕ, suc, ◌+◌, ◌-◌, ◌*◌, ◌^◌, ◌<◌, ◌≤◌, List, [], ◌∷◌, ◌++◌, take, drop, reverse, length, get_or, refl, sym, ap, ◌∙◌, arith, subst, inl, inr, length-append, length-drop}
use Rattle.std.proofs.lemmas.List.{get_or-map, get_or_default, length-map, length-take, map-append, drop-append-le, take-append-le, drop_at, take_all, length_push, get_or_append_left, get_or_push, length-reverse, get_or-reverse}
use Rattle.std.proofs.lemmas.Grind.{reverse_onto}
use Rattle.std.proofs.lemmas.List.Sorted.{sum_by-IsPermutation, IsPermutation-reverse}
use Rattle.std.proofs.lemmas.List.Sums.{sum_by_push}
use Rattle.std.proofs.lemmas.Bool.{cases_lt}
use Rattle.rpm_hindex.proofs.Vocabulary.{AreKeysPacked, head_kind, head_length, live_of, no_head, no_row, PackedHead, packed_rows}
use Rattle.rpm_hindex.proofs.Vocabulary.{record_units, Row, row_in, row_nth}

pub packed_none : AreKeysPacked [] [] 0
unfolding live_of
packed_none = record {
  within = λ i lt. absurd (omega arith);
  units = refl;
  most = omega arith;
  count = omega arith;
}

-- bytes after all keys change no row
same_row_in : (keys key : List ℕ) (h : PackedHead) → h.start + head_length h ≤ length keys → row_in (keys ++ key) h ≡ row_in keys h
same_row_in keys key h le =
    let is : take (head_length h) (drop h.start (keys ++ key)) ≡ take (head_length h) (drop h.start keys) =
    ap (λ (bs : List ℕ). take (head_length h) bs) (drop-append-le h.start keys key (omega arith)) ∙ take-append-le (head_length h) (drop h.start keys) key
    (omega (arith, length-drop h.start keys)) in
    ap (λ (bs : List ℕ). let r : Row = record { kind = head_kind h; key = bs; number = h.number; place = h.place } in r) is

same_rows_in : (keys key : List ℕ) (hs : List PackedHead) → ((i : ℕ) → i < length hs → (get_or hs i no_head).start + head_length (get_or hs i no_head)
    ≤ length keys) → packed_rows (keys ++ key) hs ≡ packed_rows keys hs
same_rows_in keys key [] within = refl
same_rows_in keys key (h ∷ hs) within =
    ap (λ (r : Row). r ∷ packed_rows (keys ++ key) hs) (same_row_in keys key h (within 0 (omega arith)))
    ∙ ap (λ (rs : List Row). row_in keys h ∷ rs) (same_rows_in keys key hs (λ i lt. within (suc i) (omega arith)))

module _ (heads : List PackedHead) (keys key : List ℕ) (live kind : ℕ) (h : PackedHead) (packed : AreKeysPacked heads keys live)
    (start : h.start ≡ length keys) (word : h.kind_and_length ≡ kind * 2 ^ 28 + length key) (short : length key < 2 ^ 28) where
  abbrev row : Row
  row = record { kind = kind; key = key; number = h.number; place = h.place }

  long : head_length h ≡ length key
  long = omega (arith, word, short)

  kind_is : head_kind h ≡ kind
  kind_is = omega (arith, word, short)

  new_row : row_in (keys ++ key) h ≡ row
  new_row =
      let is : take (head_length h) (drop h.start (keys ++ key)) ≡ key = ap (λ (bs : List ℕ). take (head_length h) bs) (drop_at keys key h.start (sym start))
      ∙ take_all (head_length h) key (omega (arith, long)) in
      ap (λ (bs : List ℕ). let r : Row = record { kind = head_kind h; key = bs; number = h.number; place = h.place } in r) is
      ∙ ap (λ (k : ℕ). let r : Row = record { kind = k; key = key; number = h.number; place = h.place } in r) kind_is

  pub rows_more : packed_rows (keys ++ key) (heads ++ h ∷ []) ≡ packed_rows keys heads ++ row ∷ []
  rows_more =
      map-append (row_in (keys ++ key)) heads (h ∷ [])
      ∙ ap (λ (rs : List Row). rs ++ row_in (keys ++ key) h ∷ []) (same_rows_in keys key heads packed.within)
      ∙ ap (λ (r : Row). packed_rows keys heads ++ r ∷ []) new_row

  each_more : (P : PackedHead → Type 0) → ((i : ℕ) → i < length heads → P (get_or heads i no_head)) → P h → (i : ℕ) → i < length (heads ++ h ∷ [])
      → P (get_or (heads ++ h ∷ []) i no_head)
  each_more P old new i lt = elim (cases_lt i (length heads)) [
    | inl below ↦ subst P (sym (get_or_append_left heads (h ∷ []) no_head i below)) (old i below)
    | inr past ↦ subst P (sym (get_or_push heads h no_head i (omega (arith, length_push heads h)))) new
  ]

  pub packed_more : live + record_units (length key) ≤ 2 ^ 60 → AreKeysPacked (heads ++ h ∷ []) (keys ++ key) (live + record_units (length key))
  unfolding live_of
  packed_more most = record {
    within = each_more (λ (g : PackedHead). g.start + head_length g ≤ length (keys ++ key)) (λ i lt. omega (
      arith,
      length-append keys key,
      packed.within i lt,
    )) (omega (arith, length-append keys key, start, long));
    units =
        let n : live ≡ live_of (packed_rows keys heads) = packed.units in
        let m = sum_by_push (λ (r : Row). record_units (length r.key)) (packed_rows keys heads) row in
        omega (arith, n, m) ∙ sym (ap live_of rows_more);
    most = most;
    count = omega (arith, length_push heads h, packed.count);
  }

-- ---- the rows turned round

pub rows_reversed : (keys : List ℕ) (heads : List PackedHead) → packed_rows keys (reverse heads) ≡ reverse (packed_rows keys heads)
rows_reversed keys [] = refl
rows_reversed keys (h ∷ hs) =
    ap (packed_rows keys) (reverse_onto hs h [])
    ∙ map-append (row_in keys) (reverse hs) (h ∷ [])
    ∙ ap (λ (rs : List Row). rs ++ row_in keys h ∷ []) (rows_reversed keys hs)
    ∙ sym (reverse_onto (packed_rows keys hs) (row_in keys h) [])

each_reversed : (P : PackedHead → Type 0) (heads : List PackedHead) → ((i : ℕ) → i < length heads → P (get_or heads i no_head)) → (i : ℕ)
    → i < length (reverse heads) → P (get_or (reverse heads) i no_head)
each_reversed P heads old i lt =
    let below : i < length heads = omega (arith, length-reverse heads, lt) in
    subst P (sym (get_or-reverse heads i no_head below)) (old (length heads - 1 - i) (omega (arith, below)))

pub packed_reversed : (heads : List PackedHead) (keys : List ℕ) (live : ℕ) → AreKeysPacked heads keys live → AreKeysPacked (reverse heads) keys live
unfolding live_of
packed_reversed heads keys live packed = record {
  within = each_reversed (λ (g : PackedHead). g.start + head_length g ≤ length keys) heads packed.within;
  units =
      let rows = packed_rows keys heads in
      let same = sum_by-IsPermutation (λ (r : Row). record_units (length r.key)) rows (reverse rows) (IsPermutation-reverse rows) in
      packed.units ∙ sym same ∙ sym (ap live_of (rows_reversed keys heads));
  most = packed.most;
  count = omega (arith, length-reverse heads, packed.count);
}

-- ---- one row

-- what a head says of its row
pub record IsHeadOf (keys : List ℕ) (row : Row) (h : PackedHead) : Type 0 where
  pub row_is : row ≡ row_in keys h
  pub within : h.start + head_length h ≤ length keys
  pub long : length row.key ≡ head_length h

pub head_is : (heads : List PackedHead) (keys : List ℕ) (live : ℕ) → AreKeysPacked heads keys live → (rows : List Row) → packed_rows keys heads ≡ rows
    → (i : ℕ) → i < length rows → (h : PackedHead) → h ≡ get_or heads i h → IsHeadOf keys (row_nth rows i) h
head_is heads keys live packed rows view i lt h is =
    let below : i < length heads = omega (arith, ap length view, length-map heads (row_in keys), lt) in
    let same : h ≡ get_or heads i no_head = is ∙ get_or_default heads i h no_head below in
    let row : row_nth rows i ≡ row_in keys h =
    ap (λ (rs : List Row). row_nth rs i) (sym view) ∙ get_or-map (row_in keys) heads i no_head no_row below ∙ ap (row_in keys) (sym same) in
    let within : h.start + head_length h ≤ length keys = subst (λ (g : PackedHead). g.start + head_length g ≤ length keys) (sym same) (packed.within i below) in
    record {
      row_is = row;
      within = within;
      long = ap (λ (r : Row). length r.key) row ∙ omega (arith, within, length-take (head_length h) (drop h.start keys), length-drop h.start keys);
    }
