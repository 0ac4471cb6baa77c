-- A draft, record by record.
use Rattle.std.proofs.Common.{◌≡◌, ℕ, zero, suc, ◌+◌, ◌-◌, ◌*◌, ◌/◌, ◌%◌, ◌^◌, ◌<◌, ◌≤◌, List, [], ◌∷◌, ◌++◌, length, take, drop, map, replicate, true, refl, sym, ap, ◌∙◌, arith, subst}
use Rattle.rpm_hindex.proofs.Vocabulary.{all_places, blank, bytes_of, bytes_of_word, Contains, draft_index, flat_map, hash_of, is_bucket_count, is_link, IsDraft}
use Rattle.rpm_hindex.proofs.Vocabulary.{IsWhole, length-cut_up, live_of, places_of, range_with_len, record_of, record_units, Row, row_at, rows_of, sum_by}
use Rattle.rpm_hindex.proofs.Vocabulary.{times, times-append, unit_at, unit_at-cut_up, Units, units_of, word}
use Rattle.std.proofs.lemmas.List.{get_or_append_left, get_or-append_right, length_push}
use Rattle.std.proofs.lemmas.List.Sums.{sum_by_push, sum_by-cons}
use Rattle.rpm_hindex.proofs.BucketWords.{drop_set, length_set, word_before, word_kept, word_set, word_zero}
use Rattle.rpm_hindex.proofs.Made.{units-made}
use Rattle.rpm_hindex.proofs.Orders.{few, Few}
use Rattle.rpm_hindex.proofs.Wholes.{HasChains, has_chains, chains_ok, all_are}
use Rattle.rpm_hindex.proofs.Adds.{AddsRecord, AddsWithin, whole_more, times_more, padded_more}
use Rattle.rpm_hindex.proofs.Padding.{padded_then}

pub live_push : (rows : List Row) (row : Row) → live_of (rows ++ row ∷ []) ≡ live_of rows + record_units (length row.key)
unfolding live_of
live_push rows row = sum_by_push (λ (r : Row). record_units (length r.key)) rows row

-- each row has a unit at least
pub length-le-live : (rows : List Row) → length rows ≤ live_of rows
unfolding live_of
length-le-live [] = omega arith
length-le-live (r ∷ rs) = omega (arith, length-le-live rs, sum_by-cons (λ (q : Row). record_units (length q.key)) r rs)

-- ---- no records

nothing : (a n : ℕ) → flat_map (λ (b : ℕ). let none : List ℕ = [] in none) (range_with_len a n) ≡ []
nothing a zero = refl
nothing a (suc n) = nothing (a + 1) n

module _ (buckets : ℕ) (bytes : List ℕ) (zeros : bytes ≡ replicate (16 + 4 * buckets) 0) (long : length bytes ≡ 16 * (1 + buckets / 4)) where
  empty : HasChains (draft_index buckets bytes) (λ b. [])
  empty b below =
      let zero' : word (4 + b) bytes ≡ 0 = ap (word (4 + b)) zeros ∙ word_zero (16 + 4 * buckets) (4 + b) (omega (arith, below)) in
      (ap (is_link (draft_index buckets bytes)) zero', zero')

  none : all_places (draft_index buckets bytes) ≡ []
  none = all_are (draft_index buckets bytes) (λ b. []) empty ∙ nothing 0 buckets

  pub draft_none : IsDraft [] buckets bytes
  unfolding rows_of live_of
  draft_none = record {
    whole_units = omega (arith, long);
    front = omega (arith, long);
    whole = record {
      chains = chains_ok (draft_index buckets bytes) (λ b. []) empty;
      apart = λ a b ca cb lt. let c = subst (λ (ps : List ℕ). Contains ps a) none ca in absurd (omega (arith, c.1));
      records = ap length none;
      live = ap (sum_by _) none;
    };
    same = λ r. ap (λ (ps : List ℕ). times r (map (row_at (draft_index buckets bytes).unit) ps)) none;
    padded = λ p m. let c = subst (λ (ps : List ℕ). Contains ps p) none m in absurd (omega (arith, c.1));
  }

-- ---- one more

module _ (rows : List Row) (buckets : ℕ) (bytes pushed later : List ℕ) (kind : ℕ) (key : List ℕ) (number place : ℕ) (draft : IsDraft rows buckets bytes)
    (count : is_bucket_count buckets ≡ true) (fits : 16 + 4 * buckets ≤ length bytes) (room : 1 + length bytes / 16 + record_units (length key) ≤ 2 ^ 28)
    (kinds : kind < 16) (short : length key < 2 ^ 28) (numbers : number < 2 ^ 32) (places : place < 2 ^ 32) where
  abbrev bucket : ℕ
  bucket = hash_of kind key % buckets

  abbrev row : Row
  row = record { kind = kind; key = key; number = number; place = place }

  -- the record behind the others, and then its place in its bucket's word
  pub draft_more : pushed ≡ bytes ++ bytes_of (record_of (word (4 + bucket) bytes) kind key number place) → length pushed ≡ length bytes + 16 *
      record_units (length key) → later ≡ take (4 * (4 + bucket)) pushed ++ bytes_of_word (1 + length bytes / 16) ++ drop (4 * (4 + bucket) + 4) pushed
      → IsDraft (rows ++ row ∷ []) buckets later
  draft_more is long set' =
      let f : Few buckets = few buckets count in
      let old = draft_index buckets bytes in
      let new = draft_index buckets later in
      let n = length bytes / 16 in
      let sixteen : length bytes ≡ 16 * n = omega (arith, draft.whole_units) in
      let made = record_of (word (4 + bucket) bytes) kind key number place in
      let units : units_of pushed ≡ units_of bytes ++ made = ap units_of is ∙ units-made (word (4 + bucket) bytes) kind key number place bytes n sixteen in
      let many : length (units_of bytes) ≡ n = length-cut_up n bytes in
      let below : bucket < buckets = omega (arith, f.some) in
      let inside : 4 * (4 + bucket) + 4 ≤ length pushed = omega (arith, below, fits, long) in
      let size : length later ≡ length pushed = length_set pushed later (4 + bucket) (1 + n) inside set' in
      let kept : (k : ℕ) → 1 + buckets / 4 ≤ k → k < length pushed / 16 → unit_at (units_of later) k ≡ unit_at (units_of pushed) k = λ k from to.
      unit_at-cut_up (length later / 16) later k (omega (arith, size, to))
      ∙ ap (take 16) (drop_set pushed later (4 + bucket) (1 + n) inside set' (16 * k) (omega (arith, below, f.fours, from)))
      ∙ sym (unit_at-cut_up (length pushed / 16) pushed k to) in
      let adds : AddsRecord old new kind key number place = record {
        buckets = refl;
        used = omega (arith, long, size);
        old = λ i from to.
            kept (i - 1) (omega (arith, from)) (omega (arith, long, from, to))
            ∙ ap (λ (us : Units). unit_at us (i - 1)) units
            ∙ get_or_append_left (units_of bytes) made blank (i - 1) (omega (arith, many, from, to));
        new = λ k lt.
            let at : 1 + n + k - 1 ≡ n + k = omega arith in
            let in' : n + k - n ≡ k = omega arith in
            kept (1 + n + k - 1) (omega (arith, draft.front)) (omega (arith, long, lt))
            ∙ ap (λ (us : Units). unit_at us (1 + n + k - 1)) units
            ∙ ap (unit_at (units_of bytes ++ made)) at
            ∙ get_or-append_right (units_of bytes) made n (n + k) blank many (omega arith)
            ∙ ap (unit_at made) in';
        head = word_set pushed later (4 + bucket) (1 + n) inside set' (omega (arith, room));
        heads = λ b lt other.
            word_kept pushed later (4 + bucket) (1 + n) inside set' (4 + b) (λ e. other (omega (arith, e)))
            ∙ ap (word (4 + b)) is
            ∙ word_before bytes (bytes_of made) (4 + b) (omega (arith, lt, fits));
      } in
      let within : AddsWithin old kind key number place = record {
        bucket = below;
        front = draft.front;
        small = omega (arith, room);
        kinds = kinds;
        short = short;
        numbers = numbers;
        places = places;
      } in
      let has = has_chains old draft.whole.chains in
      let whole = whole_more old new kind key number place adds within (places_of old) has (length rows) (live_of rows) draft.whole in
      record {
        whole_units = omega (arith, size, long, draft.whole_units);
        front = omega (arith, size, draft.front, long);
        whole = subst (λ (m : ℕ). IsWhole (length (rows ++ row ∷ [])) m new) (sym (live_push rows row))
            (subst (λ (m : ℕ). IsWhole m (live_of rows + record_units (length key)) new) (sym (length_push rows row)) whole);
        same = λ r. times_more old new kind key number place adds within (places_of old) has r ∙ ap (λ (m : ℕ). m + times r (row ∷ [])) (draft.same r)
            ∙ sym (times-append r rows (row ∷ []));
        padded = padded_then old new draft.padded (padded_more old new kind key number place adds within (places_of old) has);
      }
