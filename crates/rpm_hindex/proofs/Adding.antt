-- A record is added to a change.
use Rattle.std.proofs.Common.{◌≡◌, ℕ, ◌+◌, ◌-◌, ◌*◌, ◌/◌, ◌%◌, ◌^◌, ◌<◌, ◌≤◌, List, [], ◌∷◌, ◌++◌, length, length-append, false, ltb, refl, sym, ap, ◌∙◌, arith, subst, inl, inr}
use Rattle.std.specs.Prelude.{Option, unwrap_or}
use Rattle.std.proofs.lemmas.List.{get_or_append_left, get_or-append_right}
use Rattle.std.proofs.lemmas.Bool.{cases_Bool, cases_eq, cond-true, cond-false, ltb-false, le-ltb}
use Rattle.rpm_hindex.proofs.Vocabulary.{AddsPadded, AddsRows, blank, bucket_unit, bytes_of, CanGo, Change, index_after, Extent, first_record, get, hash_of}
use Rattle.rpm_hindex.proofs.Vocabulary.{HasWord, Index, index_with, IsWhole, length-cut_up, nat_cmp, places_of, Puts, record_of, record_units, Row, rows_of}
use Rattle.rpm_hindex.proofs.Vocabulary.{times, times-append, times_none, unit_after, unit_at, Units, units_of, word}
use Rattle.rpm_hindex.proofs.Wholes.{has_chains}
use Rattle.rpm_hindex.proofs.Made.{length-bytes, units-made}
use Rattle.rpm_hindex.proofs.Adds.{AddsRecord, AddsWithin, whole_more, times_more, padded_more}
use Rattle.rpm_hindex.proofs.Padding.{adds_none, adds_then}

module _ (buckets used : ℕ) (units later : ℕ → Option (List ℕ)) (tail more : List ℕ) (file : Units) (kind : ℕ) (key : List ℕ) (number place : ℕ) where
  abbrev old : Index
  old = index_with buckets used units tail file

  abbrev new : Index
  new = index_with buckets used later more file

  abbrev bucket : ℕ
  bucket = hash_of kind key % buckets

  pub adds_record : buckets % 4 ≡ 0 → bucket < buckets → (w : List ℕ) → Puts units later (bucket_unit bucket) w
      → HasWord (unit_after units file (bucket_unit bucket)) w (bucket % 4) (used + length tail / 16)
      → length tail % 16 ≡ 0 → more ≡ tail ++ bytes_of (record_of (old.head bucket) kind key number place) → first_record buckets ≤ used → AddsRecord
      old new kind key number place
  adds_record fours below w put is_word whole is front =
      let n = length tail / 16 in
      let made = record_of (old.head bucket) kind key number place in
      let sixteen : length tail ≡ 16 * n = omega (arith, whole) in
      let all : units_of more ≡ units_of tail ++ made = ap units_of is ∙ units-made (old.head bucket) kind key number place tail n sixteen in
      let many : length (units_of tail) ≡ n = length-cut_up n tail in
      let long : length more ≡ length tail + 16 * record_units (length key) = ap length is ∙ length-append tail _ ∙ ap (λ (k : ℕ). length tail + k)
      (length-bytes (old.head bucket) kind key number place) in
      let words : unit_after later file (bucket_unit bucket) ≡ w = ap (λ (o : Option (List ℕ)). unwrap_or o (unit_at file (bucket_unit bucket))) put.here in
      record {
        buckets = refl;
        used = omega (arith, long, sixteen);
        old = λ i from to. elim (cases_Bool (ltb i used)) [
          | inl before ↦
              cond-true (ltb i used) (unit_after later file i) (unit_at (units_of more) (i - used)) before
              ∙ ap (λ (o : Option (List ℕ)). unwrap_or o (unit_at file i)) (put.others i (λ e. absurd (omega (arith, e, from, below, fours))))
              ∙ sym (cond-true (ltb i used) (unit_after units file i) (unit_at (units_of tail) (i - used)) before)
          | inr behind ↦
              let ge = ltb-false i used behind in
              cond-false (ltb i used) (unit_after later file i) (unit_at (units_of more) (i - used)) behind
              ∙ ap (λ (us : Units). unit_at us (i - used)) all
              ∙ get_or_append_left (units_of tail) made blank (i - used) (omega (arith, many, ge, to))
              ∙ sym (cond-false (ltb i used) (unit_after units file i) (unit_at (units_of tail) (i - used)) behind)
        ];
        new = λ k lt.
            let i = used + n + k in
            let behind : ltb i used ≡ false = le-ltb i used (omega arith) in
            let at : i - used ≡ n + k = omega arith in
            let in' : n + k - n ≡ k = omega arith in
            cond-false (ltb i used) (unit_after later file i) (unit_at (units_of more) (i - used)) behind
            ∙ ap (λ (us : Units). unit_at us (i - used)) all
            ∙ ap (unit_at (units_of tail ++ made)) at
            ∙ get_or-append_right (units_of tail) made n (n + k) blank many (omega arith)
            ∙ ap (unit_at made) in';
        head = ap (word (bucket % 4)) words ∙ is_word.here;
        heads = λ b lt other. elim (cases_eq (bucket_unit b) (bucket_unit bucket)) [
          | inl same ↦
              ap (λ (u : ℕ). word (b % 4) (unit_after later file u)) same
              ∙ ap (word (b % 4)) words
              ∙ is_word.others (b % 4) (omega arith) (λ e. other (omega (arith, same, e)))
              ∙ sym (ap (λ (u : ℕ). word (b % 4) (unit_after units file u)) same)
          | inr apart ↦ ap (λ (o : Option (List ℕ)). word (b % 4) (unwrap_or o (unit_at file (bucket_unit b)))) (put.others (bucket_unit b) apart)
        ];
      }

-- ---- what a row more leaves

pub row_added : (c d : Change) (file : Units) → CanGo c → (kind : ℕ) (key : List ℕ) (number place b u next : ℕ) (words w : List ℕ)
    → b ≡ hash_of kind key % c.extent.buckets → b < c.extent.buckets → words ≡ unit_after (λ q. get nat_cmp c.units q) file (bucket_unit b) → u
    ≡ c.extent.used + length c.tail.items / 16
    → HasWord words w (b % 4) u → Puts (λ q. get nat_cmp c.units q) (λ q. get nat_cmp d.units q) (bucket_unit b) w → next ≡ word (b % 4) words
    → d.tail.items ≡ c.tail.items ++ bytes_of (record_of next kind key number place) → d.extent ≡ c.extent → d.records ≡ c.records + 1 → d.live
    ≡ c.live + record_units (length key)
    → kind < 16 → length key < 2 ^ 28 → number < 2 ^ 32 → place < 2 ^ 32
    → IsWhole c.records c.live (index_after c file) → AddsRows c d file (record { kind = kind; key = key; number = number; place = place } ∷ [])
row_added c d file go kind key number place b u next words w eb below ew eu has put en is extent count live kinds short numbers places whole =
    let B = c.extent.buckets in
    let h = hash_of kind key % B in
    let old = index_after c file in
    let new = index_with B c.extent.used (λ q. get nat_cmp d.units q) d.tail.items file in
    let lower : h < B = omega (arith, eb, below) in
    let put_here = subst (λ (k : ℕ). Puts (λ q. get nat_cmp c.units q) (λ q. get nat_cmp d.units q) (bucket_unit k) w) eb put in
    let words_here = ew ∙ ap (λ (k : ℕ). unit_after (λ q. get nat_cmp c.units q) file (bucket_unit k)) eb in
    let has_u = subst (λ (n : ℕ). HasWord words w (b % 4) n) eu has in
    let has_b = subst (λ (k : ℕ). HasWord words w (k % 4) (c.extent.used + length c.tail.items / 16)) eb has_u in
    let has_here = subst (λ (ws : List ℕ). HasWord ws w (h % 4) (c.extent.used + length c.tail.items / 16)) words_here has_b in
    let head : next ≡ old.head h = en ∙ ap (λ (k : ℕ). word (k % 4) words) eb ∙ ap (word (h % 4)) words_here in
    let more = is ∙ ap (λ (n : ℕ). c.tail.items ++ bytes_of (record_of n kind key number place)) head in
    let adds : AddsRecord old new kind key number place = adds_record B c.extent.used (λ q. get nat_cmp c.units q) (λ q. get nat_cmp d.units q)
    c.tail.items d.tail.items file kind key number place go.fours lower w put_here has_here go.whole more go.front in
    let within : AddsWithin old kind key number place = record {
      bucket = lower;
      front = omega (arith, go.front);
      small = omega (arith, go.room);
      kinds = kinds;
      short = short;
      numbers = numbers;
      places = places;
    } in
    let chains = has_chains old whole.chains in
    let all = whole_more old new kind key number place adds within (places_of old) chains c.records c.live whole in
    let same : index_after d file ≡ new = ap (λ (e : Extent). index_with e.buckets e.used (λ q. get nat_cmp d.units q) d.tail.items file) extent in
    record {
      whole = subst (IsWhole d.records d.live) (sym same) (subst (λ (n : ℕ). IsWhole d.records n new) (sym live)
          (subst (λ (n : ℕ). IsWhole n (c.live + record_units (length key)) new) (sym count) all));
      rows' = λ r. ap (λ (x : Index). times r (rows_of x)) same ∙ times_more old new kind key number place adds within (places_of old) chains r;
      padded = subst (AddsPadded old) (sym same) (padded_more old new kind key number place adds within (places_of old) chains);
    }

-- no rows more
pub rows_none : (c : Change) (file : Units) → IsWhole c.records c.live (index_after c file) → AddsRows c c file []
rows_none c file whole = record { whole = whole; rows' = λ r. omega (arith, times_none r); padded = adds_none (index_after c file) }

-- and rows one after the other
pub rows_then : (c d e : Change) (file : Units) (rows : List Row) (row : Row) → AddsRows c d file rows → (IsWhole d.records d.live (index_after d file)
    → AddsRows d e file (row ∷ [])) → AddsRows c e file (rows ++ row ∷ [])
rows_then c d e file rows row first second =
    let more = second first.whole in
    record {
      whole = more.whole;
      rows' = λ r. omega (arith, more.rows' r, first.rows' r, times-append r rows (row ∷ []));
      padded = adds_then (index_after c file) (index_after d file) (index_after e file) first.padded more.padded;
    }
