-- A change that was written in place is the index that it was worked out to be.
use Rattle.std.proofs.Common.{true, ◌*◌, ◌≡◌, ℕ, zero, suc, ◌+◌, ◌-◌, ◌/◌, ◌%◌, ◌^◌, ◌<◌, ◌≤◌, List, [], ◌∷◌, map, length, min, Bool, eqb, ltb, BTreeMap, Vec, Global, refl, sym, ap, ◌∙◌, arith, subst, inl, inr}
use Rattle.std.specs.Prelude.{Option, Some, None, unwrap_or}
use Rattle.rpm_hindex.proofs.Vocabulary.{AddsPadded, AddsRows, file_after, after_tail, after_units, bucket_unit, CanGo, Change, index_after, Contains, contains}
use Rattle.rpm_hindex.proofs.Vocabulary.{filter, first_record, get, HasLess, Index, index_in, InPlace, is_bucket_count, is_kept, is_ordered, IsChanged}
use Rattle.rpm_hindex.proofs.Vocabulary.{IsPaddedPlan, IsPlanFor, IsStarted, IsStrictlySortedBy, IsWellFormed, IsWhole, IsWorkOf, keys, LeavesOrder}
use Rattle.rpm_hindex.proofs.Vocabulary.{length-cut_up, nat_cmp, Patch, patch_of, Patches, places_of, with_units, put_after, put_before, put_inside, records, Row}
use Rattle.rpm_hindex.proofs.Vocabulary.{rows_of, Scratch, times, unit_after, unit_at, unit_of_words, Units, units_of, word, word_0, word_1, word_2, Work}
use Rattle.std.proofs.lemmas.Cmp.{nat_cmp_total}
use Rattle.std.proofs.lemmas.Map.Views.{btree_map_get_iff}
use Rattle.std.proofs.lemmas.Bool.{cases_Bool, cases_eq, cond-true, cond-false, eqb-true, ltb-true, ltb-false, lt-ltb, and_from, le-leb}
use Rattle.rpm_hindex.proofs.Extends.{Extends, whole_same, rows_same, has_same, stands_in}
use Rattle.rpm_hindex.proofs.Padding.{adds_then, adds_same}
use Rattle.rpm_hindex.proofs.Cutting.{stays_then, stays_same}
use Rattle.rpm_hindex.proofs.Wholes.{has_chains, places_are, in_all}
use Rattle.rpm_hindex.proofs.Going.{nat_exact}

abbrev Entries : Type 0
Entries = List (ℕ × List ℕ)

-- a unit that is put as it already is, or not at all
stays : (es : Entries) (i : ℕ) (v : List ℕ) (file : Units) → ((u : List ℕ) → Contains es (i, u) → u ≡ v) → unit_at file i ≡ v
    → unit_at (after_units (map patch_of es) file) i ≡ v
stays [] i v file all is = is
stays (e ∷ es) i v file all is = stays es i v (with_units e.0 (e.1 ∷ []) file) (λ u (k, lt, at). all u (suc k, omega arith, at)) (elim (cases_eq e.0 i) [
  | inl here ↦
      let value : e.1 ≡ v = all e.1 (0, omega arith, ap (λ (k : ℕ). (k, e.1)) here) in
      let spot : i ≡ e.0 + 0 = omega (arith, here) in
      ap (unit_at (with_units e.0 (e.1 ∷ []) file)) spot ∙ put_inside e.0 (e.1 ∷ []) file 0 (omega arith) ∙ value
  | inr other ↦ elim (cases_Bool (ltb i e.0)) [
    | inl below ↦ put_before e.0 (e.1 ∷ []) file i (ltb-true i e.0 below) ∙ is
    | inr above ↦ put_after e.0 (e.1 ∷ []) file i (omega (arith, ltb-false i e.0 above, other)) ∙ is
  ]
])

-- and one that is put
found : (es : Entries) (i : ℕ) (v : List ℕ) (file : Units) → ((u : List ℕ) → Contains es (i, u) → u ≡ v) → Contains es (i, v)
    → unit_at (after_units (map patch_of es) file) i ≡ v
found [] i v file all (k, lt, at) = absurd (omega arith)
found (e ∷ es) i v file all (zero, lt, at) =
    let spot : i ≡ e.0 + 0 = omega (arith, ap (λ (p : ℕ × List ℕ). p.0) at) in
    stays es i v (with_units e.0 (e.1 ∷ []) file) (λ u (k, below, is). all u (suc k, omega arith, is))
    (ap (unit_at (with_units e.0 (e.1 ∷ []) file)) spot ∙ put_inside e.0 (e.1 ∷ []) file 0 (omega arith) ∙ ap (λ (p : ℕ × List ℕ). p.1) at)
found (e ∷ es) i v file all (suc k, lt, at) =
    found es i v (with_units e.0 (e.1 ∷ []) file) (λ u (j, below, is). all u (suc j, omega arith, is)) (k, omega arith, at)

some_is : {X : Type 0} (u v : X) → Some u ≡ Some v → u ≡ v
some_is u v e = ap (λ (o : Option _). unwrap_or o u) e

none_some : {X : Type 0} (u : X) (o : Option X) → o ≡ None → o ≡ Some u → ⊥
none_some u o e f = let wrong : ⊥ = cc (e, f) in wrong

-- each unit is as the map has it, or as it was
pub units_put : (m : BTreeMap ℕ (List ℕ)) → IsStrictlySortedBy nat_cmp (keys m) → (file : Units) (i : ℕ)
    → unit_at (after_units (map patch_of m.entries) file) i ≡ unit_after (λ q. get nat_cmp m q) file i
units_put m ordered file i = go (get nat_cmp m i) refl where
  iff : (v : List ℕ) → (get nat_cmp m i ≡ Some v → Contains m.entries (i, v)) × (Contains m.entries (i, v) → get nat_cmp m i ≡ Some v)
  iff v = let f = btree_map_get_iff nat_cmp_total nat_exact m ordered i v in (f.0, f.1)

  go : (o : Option (List ℕ)) → get nat_cmp m i ≡ o → unit_at (after_units (map patch_of m.entries) file) i ≡ unwrap_or (get nat_cmp m i) (unit_at file i)
  go None e =
      stays m.entries i (unit_at file i) file (λ u c. absurd (none_some u (get nat_cmp m i) e ((iff u).1 c))) refl
      ∙ sym (ap (λ (o : Option (List ℕ)). unwrap_or o (unit_at file i)) e)
  go (Some v) e =
      found m.entries i v file (λ u c. some_is u v (sym ((iff u).1 c) ∙ e)) ((iff v).0 e)
      ∙ sym (ap (λ (o : Option (List ℕ)). unwrap_or o (unit_at file i)) e)

-- ---- the whole file

module _ (c : Change) (go : CanGo c) (ordered : IsStrictlySortedBy nat_cmp (keys c.units)) (file : Units) (second : List ℕ) where
  abbrev written : Units
  written = with_units 1 (second ∷ []) (after_tail c.extent.used c.tail.items (after_units (map patch_of c.units.entries) file))

  second_is : unit_at written 1 ≡ second
  second_is = put_inside 1 (second ∷ []) (after_tail c.extent.used c.tail.items (after_units (map patch_of c.units.entries) file)) 0 (omega arith)

  behind_second : (i : ℕ) → 2 ≤ i → unit_at written i ≡ unit_at (after_tail c.extent.used c.tail.items (after_units (map patch_of c.units.entries) file)) i
  behind_second i ge = put_after 1 (second ∷ []) (after_tail c.extent.used c.tail.items (after_units (map patch_of c.units.entries) file)) i (omega (arith, ge))

  before_tail : (i : ℕ) → i < c.extent.used → unit_at (after_tail c.extent.used c.tail.items (after_units (map patch_of c.units.entries) file)) i
      ≡ unit_after (λ q. get nat_cmp c.units q) file i
  before_tail i lt =
      let base = after_units (map patch_of c.units.entries) file in
      let here = units_put c.units ordered file i in
      elim (cases_Bool (eqb (length c.tail.items) 0)) [
        | inl none ↦ ap (λ (f : Units). unit_at f i) (cond-true (eqb (length c.tail.items) 0) base (with_units c.extent.used (units_of c.tail.items) base) none)
            ∙ here
        | inr some ↦
            ap (λ (f : Units). unit_at f i) (cond-false (eqb (length c.tail.items) 0) base (with_units c.extent.used (units_of c.tail.items) base) some)
            ∙ put_before c.extent.used (units_of c.tail.items) base i lt
            ∙ here
      ]

  in_tail : (k : ℕ) → k < length c.tail.items / 16 → unit_at (after_tail c.extent.used c.tail.items (after_units (map patch_of c.units.entries) file))
      (c.extent.used + k) ≡ unit_at (units_of c.tail.items) k
  in_tail k lt =
      let base = after_units (map patch_of c.units.entries) file in
      elim (cases_Bool (eqb (length c.tail.items) 0)) [
        | inl none ↦ absurd (omega (arith, lt, eqb-true (length c.tail.items) 0 none))
        | inr some ↦
            ap (λ (f : Units). unit_at f (c.extent.used + k)) (cond-false (eqb (length c.tail.items) 0) base
            (with_units c.extent.used (units_of c.tail.items) base) some)
            ∙ put_inside c.extent.used (units_of c.tail.items) base k (omega (arith, lt, length-cut_up (length c.tail.items / 16) c.tail.items))
      ]

  pub placed : word 0 second ≡ c.extent.used + length c.tail.items / 16 → Extends (index_after c file) (index_in c.extent.buckets written)
  placed counts = record {
    buckets = refl;
    used = omega (arith, ap (word 0) second_is, counts);
    units = λ i from to. behind_second i (omega (arith, from)) ∙ elim (cases_Bool (ltb i c.extent.used)) [
      | inl before ↦
          before_tail i (ltb-true i c.extent.used before)
          ∙ sym (cond-true (ltb i c.extent.used) (unit_after (λ q. get nat_cmp c.units q) file i) (unit_at (units_of c.tail.items) (i - c.extent.used)) before)
      | inr behind ↦
          let ge = ltb-false i c.extent.used behind in
          let spot : i ≡ c.extent.used + (i - c.extent.used) = omega (arith, ge) in
          ap (unit_at (after_tail c.extent.used c.tail.items (after_units (map patch_of c.units.entries) file))) spot
          ∙ in_tail (i - c.extent.used) (omega (arith, ge, to))
          ∙ sym (cond-false (ltb i c.extent.used) (unit_after (λ q. get nat_cmp c.units q) file i) (unit_at (units_of c.tail.items) (i - c.extent.used)) behind)
    ];
  }

  pub placed_heads : (b : ℕ) → b < c.extent.buckets → (index_in c.extent.buckets written).head b ≡ (index_after c file).head b
  placed_heads b lt = ap (word (b % 4)) (behind_second (bucket_unit b) (omega arith) ∙ before_tail (bucket_unit b) (omega (arith, lt, go.fours, go.front)))

-- what is written, in the words of the plan
written_is : (d : Change) (p : Patches) (file : Units) → IsWorkOf d (InPlace p)
    → with_units 1 (unit_of_words (d.extent.used + length d.tail.items / 16) d.records d.live 0 ∷ [])
    (after_tail d.extent.used d.tail.items (after_units (map patch_of d.units.entries) file)) ≡ file_after (InPlace p) file
written_is d p file (units, tail, used, second, buckets) =
    ap (λ (w : List ℕ). with_units 1 (w ∷ []) (after_tail d.extent.used d.tail.items (after_units (map patch_of d.units.entries) file))) (sym second)
    ∙ ap (λ (ps : List Patch). with_units 1 (p.second ∷ []) (after_tail d.extent.used d.tail.items (after_units ps file))) (sym units)
    ∙ ap (λ (t : Vec ℕ Global). with_units 1 (p.second ∷ []) (after_tail d.extent.used t.items (after_units p.units.items file))) (sym tail)
    ∙ ap (λ (n : ℕ). with_units 1 (p.second ∷ []) (after_tail n p.tail.items (after_units p.units.items file))) (sym used)

-- what is written in place makes the change
pub place_plan : (c d : Change) (drops adds : List Row) (file : Units) (work : Work) → CanGo d → IsStrictlySortedBy nat_cmp (keys d.units)
    → IsWorkOf d work → AddsRows c d file adds
    → HasLess drops (records d.extent.buckets file) (rows_of (index_after c file)) → d.records < 2 ^ 32 → d.live < 2 ^ 32 → IsPlanFor drops adds
    d.extent.buckets file work
unfolding IsPlanFor
place_plan c d drops adds file (Scratch image) go ordered is more less count live = absurd is
place_plan c d drops adds file (InPlace p) go ordered (units, tail, used, second, buckets) more less count live =
    let B = d.extent.buckets in
    let words = unit_of_words (d.extent.used + length d.tail.items / 16) d.records d.live 0 in
    let new = with_units 1 (words ∷ []) (after_tail d.extent.used d.tail.items (after_units (map patch_of d.units.entries) file)) in
    let one : unit_at new 1 ≡ words = second_is d go ordered file words in
    let zero_word : word 0 words ≡ d.extent.used + length d.tail.items / 16 = word_0 (d.extent.used + length d.tail.items / 16) d.records d.live 0
    (omega (arith, go.room)) in
    let first_word : word 1 (unit_at new 1) ≡ d.records = ap (word 1) one ∙ word_1 (d.extent.used + length d.tail.items / 16) d.records d.live 0 count in
    let second_word : word 2 (unit_at new 1) ≡ d.live = ap (word 2) one ∙ word_2 (d.extent.used + length d.tail.items / 16) d.records d.live 0 live in
    let ext = placed d go ordered file words zero_word in
    let heads = placed_heads d go ordered file words in
    let whole = whole_same (index_after d file) (index_in B new) ext heads d.records d.live more.whole in
    let well : IsWellFormed B new = subst (λ (n : ℕ). IsWhole n (word 2 (unit_at new 1)) (index_in B new)) (sym first_word)
    (subst (λ (n : ℕ). IsWhole d.records n (index_in B new)) (sym second_word) whole) in
    let rows : rows_of (index_in B new) ≡ rows_of (index_after d file) = rows_same (index_after d file) (index_in B new) ext heads
    (places_of (index_after d file)) (has_chains (index_after d file) more.whole.chains) in
    let changed : IsChanged drops adds (records B file) B new = record {
      whole = well;
      rows = λ r. ap (times r) rows ∙ more.rows' r ∙ ap (λ (n : ℕ). n + times r adds) (less r);
    } in
    subst (λ (n : ℕ). IsChanged drops adds (records B file) n (file_after (InPlace p) file)) (sym buckets)
    (subst (IsChanged drops adds (records B file) B) (written_is d p file (units, tail, used, second, buckets)) changed)

-- and the records that it adds are padded
pub place_padded : (c d : Change) (adds : List Row) (file : Units) (work : Work) → CanGo d → IsStrictlySortedBy nat_cmp (keys d.units)
    → IsWorkOf d work → AddsRows c d file adds → AddsPadded (index_in d.extent.buckets file) (index_after c file) → IsPaddedPlan d.extent.buckets file work
unfolding IsPaddedPlan
place_padded c d adds file (Scratch image) go ordered is more first = absurd is
place_padded c d adds file (InPlace p) go ordered (units, tail, used, second, buckets) more first =
    let B = d.extent.buckets in
    let words = unit_of_words (d.extent.used + length d.tail.items / 16) d.records d.live 0 in
    let new = with_units 1 (words ∷ []) (after_tail d.extent.used d.tail.items (after_units (map patch_of d.units.entries) file)) in
    let zero_word : word 0 words ≡ d.extent.used + length d.tail.items / 16 = word_0 (d.extent.used + length d.tail.items / 16) d.records d.live 0
    (omega (arith, go.room)) in
    let last = adds_same (index_after d file) (index_in B new) (placed d go ordered file words zero_word) (placed_heads d go ordered file words)
    (places_of (index_after d file)) (has_chains (index_after d file) more.whole.chains) in
    let all = adds_then (index_in B file) (index_after d file) (index_in B new) (adds_then (index_in B file) (index_after c file) (index_after d file) first
    more.padded) last in
    subst (λ (n : ℕ). AddsPadded (index_in B file) (index_in n (file_after (InPlace p) file))) (sym buckets)
    (subst (λ (f : Units). AddsPadded (index_in B file) (index_in B f)) (written_is d p file (units, tail, used, second, buckets)) all)

filter_all : (kept : ℕ → Bool) (qs : List ℕ) → ((q : ℕ) → kept q ≡ true) → filter kept qs ≡ qs
filter_all kept [] all = refl
filter_all kept (q ∷ qs) all = cond-true (kept q) (q ∷ filter kept qs) (filter kept qs) (all q) ∙ ap (λ (rs : List ℕ). q ∷ rs) (filter_all kept qs all)

-- nothing is worked out yet
pub started : (c : Change) (file : Units) → ((q : ℕ) → get nat_cmp c.units q ≡ None) → length c.tail.items ≡ 0 → word 0 (unit_at file 1)
    ≡ c.extent.used → c.records ≡ word 1 (unit_at file 1) → c.live ≡ word 2 (unit_at file 1)
    → ((p : ℕ) → is_kept (λ q. contains nat_cmp c.dropped q) p ≡ true) → IsWellFormed c.extent.buckets file → IsStarted c file
started c file empty none used records_is live_is all whole =
    let x : Index = index_in c.extent.buckets file in
    let y : Index = index_after c file in
    let ext : Extends x y = record {
      buckets = refl;
      used = omega (arith, used);
      units = λ i from to.
          cond-true (ltb i c.extent.used) (unit_after (λ q. get nat_cmp c.units q) file i) (unit_at (units_of c.tail.items) (i - c.extent.used))
          (lt-ltb i c.extent.used (omega (arith, to, used)))
          ∙ ap (λ (o : Option (List ℕ)). unwrap_or o (unit_at file i)) (empty i);
    } in
    let heads : (b : ℕ) → b < x.buckets → y.head b ≡ x.head b = λ b lt. ap (λ (o : Option (List ℕ)). word (b % 4)
    (unwrap_or o (unit_at file (bucket_unit b)))) (empty (bucket_unit b)) in
    let hx = has_chains x whole.chains in
    let has = has_same x y ext heads (places_of x) hx in
    let well : IsWhole c.records c.live y = subst (λ (n : ℕ). IsWhole n c.live y) (sym records_is)
    (subst (λ (n : ℕ). IsWhole (word 1 (unit_at file 1)) n y) (sym live_is) (whole_same x y ext heads (word 1 (unit_at file 1))
    (word 2 (unit_at file 1)) whole)) in
    record {
      whole = well;
      rows' = rows_same x y ext heads (places_of x) hx;
      cut = record {
        whole = well;
        chains = λ b lt. places_are y (places_of x) has b lt ∙ sym (filter_all (is_kept (λ q. contains nat_cmp c.dropped q)) (places_of x b) all);
        stays = λ q m.
            let i = in_all x (places_of x) hx q m in
            let h = hx i.0 i.1 in
            let s = stands_in x i.0 (x.head i.0) (places_of x i.0) h.0 h.1 q i.2 in
            stays_then x.unit x.unit y.unit q (omega arith) (λ j ge lt. ext.units j (omega (arith, ge, s.front)) (omega (arith, lt, s.sound.ends)))
            (stays_same x.unit q);
      };
    }

-- and the numbers that are left suit the file
pub place_order : (d : Change) (work : Work) → CanGo d → is_bucket_count d.extent.buckets ≡ true → IsWorkOf d work → d.extent.used + length
    d.tail.items / 16 ≤ first_record d.extent.buckets + 2 * d.live → d.records < 2 ^ 32 → d.live < 2 ^ 32 → LeavesOrder work
unfolding is_ordered
place_order d (Scratch image) go count is half records live units fits = absurd is
place_order d (InPlace p) go count (are, tail, used, second, buckets) half records_small live_small units fits =
    let B = d.extent.buckets in
    let end = d.extent.used + length d.tail.items / 16 in
    let w = unit_of_words end d.records d.live 0 in
    let end_is : p.used + length p.tail.items / 16 ≡ end = omega (arith, used, ap (λ (t : Vec ℕ Global). length t.items / 16) tail) in
    let zero_is : word 0 w ≡ end = word_0 end d.records d.live 0 (omega (arith, go.room)) in
    let one_is : word 1 w ≡ d.records = word_1 end d.records d.live 0 records_small in
    let two_is : word 2 w ≡ d.live = word_2 end d.records d.live 0 live_small in
    let from : first_record B ≤ word 0 w = omega (arith, zero_is, go.front) in
    let to : word 0 w ≤ min units (2 ^ 28) = omega (arith, zero_is, end_is, fits, go.room) in
    let few_enough : word 1 w ≤ 2 * B = omega (arith, one_is, go.records) in
    let alive : word 2 w ≤ word 0 w - first_record B = omega (arith, zero_is, two_is, go.live) in
    let dead : word 0 w - first_record B - word 2 w ≤ word 2 w = omega (arith, zero_is, two_is, half) in
    let here : is_ordered B w units ≡ true =
    and_from _ _ count (and_from _ _ (le-leb _ _ from)
    (and_from _ _ (le-leb _ _ to) (and_from _ _ (le-leb _ _ few_enough) (and_from _ _ (le-leb _ _ alive) (le-leb _ _ dead))))) in
    ap (λ (n : ℕ). is_ordered n p.second units) buckets ∙ ap (λ (u : List ℕ). is_ordered B u units) second ∙ here
