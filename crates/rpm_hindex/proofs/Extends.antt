-- An index that has another's records, where they stand, and maybe more after them.
use Rattle.std.proofs.Common.{◌≡◌, ℕ, zero, suc, ◌+◌, ◌/◌, ◌%◌, ◌^◌, ◌<◌, ◌≤◌, List, [], ◌∷◌, length, map, take, true, ltb, leb, refl, sym, ap, ◌∙◌, arith, subst, inl, inr}
use Rattle.rpm_hindex.proofs.Vocabulary.{all_places, bucket_of, bytes_of, Contains, first_record, flat_map, Index, is_link, is_placed, is_sound, IsWhole}
use Rattle.rpm_hindex.proofs.Vocabulary.{key_at, key_units, length_at, next_at, places_of, range_with_len, Row, row_at, rows_of, units_from, sum_by, Units, units_at}
use Rattle.rpm_hindex.proofs.Vocabulary.{word}
use Rattle.std.proofs.lemmas.Bool.{and_from, eq-eqb, lt-ltb, le-leb, cases_eq}
use Rattle.rpm_hindex.proofs.Runs.{run_same}
use Rattle.rpm_hindex.proofs.Chains.{Sound, sound_parts}
use Rattle.rpm_hindex.proofs.FollowedLinks.{IsChain, within, behind_front, link_at}
use Rattle.rpm_hindex.proofs.Tallies.{sum_each}
use Rattle.rpm_hindex.proofs.Wholes.{HasChains, has_chains, chains_ok, all_are, in_all}

pub record Extends (x y : Index) : Type 0 where
  pub buckets : y.buckets ≡ x.buckets
  pub used : x.used ≤ y.used
  pub units : (i : ℕ) → first_record x.buckets ≤ i → i < x.used → y.unit i ≡ x.unit i

-- where a record stands
pub record Stands (x : Index) (b p : ℕ) : Type 0 where
  pub front : first_record x.buckets ≤ p
  pub sound : Sound x b p
  pub true' : is_sound x b p ≡ true

pub stands_in : (x : Index) (b at : ℕ) (ps : List ℕ) → is_link x at ≡ true → IsChain x b at ps → (p : ℕ) → Contains ps p → Stands x b p
stands_in x b at [] link is p (k, lt, e) = absurd (omega arith)
stands_in x b at (q ∷ ps) link (is, some, sound, rest) p (zero, lt, e) =
    let here : Stands x b q = record { front = behind_front x q (ap (is_link x) (sym is) ∙ link) some; sound = sound_parts x b q sound; true' = sound } in
    subst (Stands x b) e here
stands_in x b at (q ∷ ps) link (is, some, sound, rest) p (suc k, lt, e) = stands_in x b (next_at x.unit q) ps (sound_parts x b q sound).link rest p
    (k, omega arith, e)

pub sound_whole : (x : Index) (b p : ℕ) → Sound x b p → is_sound x b p ≡ true
unfolding is_sound
sound_whole x b p s =
    and_from (is_placed x p) _
    (and_from (is_link x (next_at x.unit p)) _ s.link (and_from (ltb (next_at x.unit p) p) (leb (p + units_at x.unit p) x.used) (lt-ltb _ _ s.falls)
    (le-leb _ _ s.ends)))
    (eq-eqb _ b s.bucket)

-- two ways to read units that agree on a record
pub length_same : (u v : ℕ → List ℕ) (p : ℕ) → v p ≡ u p → length_at v p ≡ length_at u p
length_same u v p e = ap (λ (w : List ℕ). word 1 w % 2 ^ 28) e

pub units_same : (u v : ℕ → List ℕ) (p : ℕ) → v p ≡ u p → units_at v p ≡ units_at u p
units_same u v p e = ap (λ (n : ℕ). 1 + key_units n) (length_same u v p e)

pub row_same : (u v : ℕ → List ℕ) (p : ℕ) → ((i : ℕ) → p ≤ i → i < p + units_at u p → v i ≡ u i) → row_at v p ≡ row_at u p
unfolding row_at
row_same u v p same =
    let here : v p ≡ u p = same p (omega arith) (omega arith) in
    let f : List ℕ → List ℕ → Row = λ w k. record { kind = word 1 w / 2 ^ 28; key = k; number = word 2 w; place = word 3 w } in
    let n = key_units (length_at u p) in
    let keys : key_at v p ≡ key_at u p =
    ap (λ (m : ℕ). take m (bytes_of (units_from v (p + 1) (key_units m)))) (length_same u v p here)
    ∙ ap (λ (us : Units). take (length_at u p) (bytes_of us)) (run_same v u (p + 1) n (λ i ge lt. same i (omega arith) (omega arith))) in
    ap (λ (w : List ℕ). f w (key_at v p)) here ∙ ap (f (u p)) keys

module _ (x y : Index) (e : Extends x y) where
  link_extends : (at : ℕ) → is_link x at ≡ true → is_link y at ≡ true
  link_extends at link = elim (cases_eq at 0) [
    | inl zeros ↦ ap (is_link y) zeros
    | inr other ↦
        let some : 0 < at = omega (arith, other) in
        link_at y at (subst (λ (b : ℕ). first_record b ≤ at) (sym e.buckets) (behind_front x at link some)) (omega (arith, within x at link some, e.used))
  ]

  pub same_units : (b p : ℕ) → Stands x b p → y.unit p ≡ x.unit p
  same_units b p s = e.units p s.front (omega (arith, s.sound.ends))

  pub same_row : (b p : ℕ) → Stands x b p → row_at y.unit p ≡ row_at x.unit p
  same_row b p s = row_same x.unit y.unit p (λ i ge lt. e.units i (omega (arith, s.front)) (omega (arith, s.sound.ends)))

  sound_extends : (b p : ℕ) → Stands x b p → Sound y b p
  sound_extends b p s =
      let here = same_units b p s in
      let next : next_at y.unit p ≡ next_at x.unit p = ap (word 0) here in
      let units = units_same x.unit y.unit p here in
      let row = same_row b p s in
      record {
        link = ap (is_link y) next ∙ link_extends (next_at x.unit p) s.sound.link;
        falls = omega (arith, next, s.sound.falls);
        ends = omega (arith, units, s.sound.ends, e.used);
        bucket = ap (λ (r : Row). bucket_of y.buckets r) row ∙ ap (λ (n : ℕ). bucket_of n (row_at x.unit p)) e.buckets ∙ s.sound.bucket;
      }

  pub chain_extends : (b at : ℕ) (ps : List ℕ) → is_link x at ≡ true → IsChain x b at ps → IsChain y b at ps
  chain_extends b at [] link is = is
  chain_extends b at (p ∷ ps) link (is, some, sound, rest) =
      let s : Stands x b p = stands_in x b at (p ∷ ps) link (is, some, sound, rest) p (0, omega arith, refl) in
      let next : next_at y.unit p ≡ next_at x.unit p = ap (word 0) (same_units b p s) in (
        is,
        some,
        sound_whole y b p (sound_extends b p s),
        subst (λ (n : ℕ). IsChain y b n ps) (sym next) (chain_extends b (next_at x.unit p) ps
            s.sound.link rest),
      )

  pub heads_extend : (b : ℕ) → is_link x (x.head b) ≡ true → is_link y (x.head b) ≡ true
  heads_extend b link = link_extends (x.head b) link

map_each : (f g : ℕ → Row) (ps : List ℕ) → ((p : ℕ) → Contains ps p → f p ≡ g p) → map f ps ≡ map g ps
map_each f g [] same = refl
map_each f g (p ∷ ps) same =
    ap (λ (r : Row). r ∷ map f ps) (same p (0, omega arith, refl))
    ∙ ap (λ (rs : List Row). g p ∷ rs) (map_each f g ps (λ q (k, lt, is). same q (suc k, omega arith, is)))

-- the same index, read from elsewhere
module _ (x y : Index) (e : Extends x y) (heads : (b : ℕ) → b < x.buckets → y.head b ≡ x.head b) where
  pub has_same : (ps : ℕ → List ℕ) → HasChains x ps → HasChains y ps
  has_same ps has b below =
      let lt : b < x.buckets = subst (λ (n : ℕ). b < n) e.buckets below in
      let h = has b lt in
      let head = heads b lt in (
        ap (is_link y) head ∙ heads_extend x y e b h.0,
        subst (λ (n : ℕ). IsChain y b n (ps b)) (sym head) (chain_extends x y e b (x.head b) (ps b) h.0 h.1),
      )

  pub all_same : (ps : ℕ → List ℕ) → HasChains x ps → all_places y ≡ all_places x
  all_same ps has =
      all_are y ps (has_same ps has)
      ∙ ap (λ (n : ℕ). flat_map ps (range_with_len 0 n)) e.buckets
      ∙ sym (all_are x ps has)

  pub stands_all : (ps : ℕ → List ℕ) → HasChains x ps → (p : ℕ) → Contains (all_places x) p → (b : ℕ) × Stands x b p
  stands_all ps has p c =
      let i = in_all x ps has p c in
      let h = has i.0 i.1 in
      (i.0, stands_in x i.0 (x.head i.0) (ps i.0) h.0 h.1 p i.2)

  pub rows_same : (ps : ℕ → List ℕ) → HasChains x ps → rows_of y ≡ rows_of x
  unfolding rows_of
  rows_same ps has =
      ap (map (row_at y.unit)) (all_same ps has)
      ∙ map_each (row_at y.unit) (row_at x.unit) (all_places x) (λ p c. let s = stands_all ps has p c in same_row x y e s.0 p s.1)

  pub whole_same : (count live : ℕ) → IsWhole count live x → IsWhole count live y
  whole_same count live whole =
      let ps : ℕ → List ℕ = places_of x in
      let has = has_chains x whole.chains in
      let all = all_same ps has in
      let units : (p : ℕ) → Contains (all_places x) p → units_at y.unit p ≡ units_at x.unit p = λ p c.
      let s = stands_all ps has p c in units_same x.unit y.unit p (same_units x y e s.0 p s.1) in
      record {
        chains = chains_ok y ps (has_same ps has);
        apart = λ a b ca cb lt.
            let da = subst (λ (qs : List ℕ). Contains qs a) all ca in
            let db = subst (λ (qs : List ℕ). Contains qs b) all cb in
            omega (arith, units a da, whole.apart a b da db lt);
        records = ap length all ∙ whole.records;
        live = ap (sum_by (units_at y.unit)) all ∙ sum_each (units_at y.unit) (units_at x.unit) (all_places x) units ∙ whole.live;
      }
