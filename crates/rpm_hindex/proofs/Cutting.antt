-- A record is cut out of its chain.
use Rattle.std.proofs.Common.{◌≡◌, ℕ, ◌+◌, ◌-◌, ◌/◌, ◌%◌, ◌^◌, ◌<◌, ◌≤◌, List, [], ◌∷◌, ◌++◌, take, map, Bool, true, ◌&&◌, cond, refl, sym, ap, ◌∙◌, arith, subst}
use Rattle.rpm_hindex.proofs.Vocabulary.{all_places, bytes_of, Contains, filter, flat_map, Index, is_link, IsWhole, kept_of, key_at, key_units, length_at}
use Rattle.rpm_hindex.proofs.Vocabulary.{next_at, places_of, range_with_len, Row, row_at, rows_of, units_from, Stays, sum_by, times, Units, units_at, word}
use Rattle.rpm_hindex.specs.Rows.{same_row as same_rows}
use Rattle.rpm_hindex.proofs.Runs.{run_same}
use Rattle.rpm_hindex.proofs.FollowedLinks.{IsChain}
use Rattle.rpm_hindex.proofs.Wholes.{HasChains, chains_ok, all_are, in_all, all_in}
use Rattle.rpm_hindex.proofs.Drops.{SameBut, has_with, sum_less, sum_without}
use Rattle.rpm_hindex.proofs.Kept.{kept_less, is_other}
use Rattle.rpm_hindex.proofs.Dropping.{filter_in}
use Rattle.rpm_hindex.proofs.Ways.{first_of}
use Rattle.rpm_hindex.proofs.Keeping.{times_flat}
use Rattle.rpm_hindex.proofs.Tallies.{tally, times_map, times_rows, sum_flat, sum_same, sum_each, length_sum}

-- ---- records that stay

pub but : (x y : Index) (q : ℕ) → Stays x.unit y.unit q → SameBut x y q
unfolding row_at
but x y q s =
    let u = x.unit in
    let v = y.unit in
    let sizes : length_at v q ≡ length_at u q = ap (λ (n : ℕ). n % 2 ^ 28) s.size in
    let n = key_units (length_at u q) in
    let keys : key_at v q ≡ key_at u q =
    ap (λ (m : ℕ). take m (bytes_of (units_from v (q + 1) (key_units m)))) sizes
    ∙ ap (λ (us : Units). take (length_at u q) (bytes_of us)) (run_same v u (q + 1) n (λ i ge lt. s.key i (omega arith) (omega arith))) in
    let f : ℕ → List ℕ → ℕ → ℕ → Row = λ a k m p. record { kind = a / 2 ^ 28; key = k; number = m; place = p } in
    record {
      units = ap (λ (m : ℕ). 1 + key_units m) sizes;
      row = ap (λ (a : ℕ). f a (key_at v q) (word 2 (v q)) (word 3 (v q))) s.size
          ∙ ap (λ (k : List ℕ). f (word 1 (u q)) k (word 2 (v q)) (word 3 (v q))) keys
          ∙ ap (λ (m : ℕ). f (word 1 (u q)) (key_at u q) m (word 3 (v q))) s.number
          ∙ ap (λ (m : ℕ). f (word 1 (u q)) (key_at u q) (word 2 (u q)) m) s.«in»;
    }

pub between : (x y z : Index) (q : ℕ) → SameBut x y q → SameBut x z q → SameBut y z q
between x y z q a b = record { units = b.units ∙ sym a.units; row = b.row ∙ sym a.row }

pub stays_same : (u : ℕ → List ℕ) (q : ℕ) → Stays u u q
stays_same u q = record { size = refl; number = refl; «in» = refl; key = λ i ge lt. refl }

pub stays_then : (u v w : ℕ → List ℕ) (q : ℕ) → 0 < units_at u q → ((i : ℕ) → q ≤ i → i < q + units_at u q → w i ≡ v i) → Stays u v q → Stays u w q
stays_then u v w q some same s =
    let here : w q ≡ v q = same q (omega arith) (omega arith) in
    record {
      size = ap (word 1) here ∙ s.size;
      number = ap (word 2) here ∙ s.number;
      «in» = ap (word 3) here ∙ s.«in»;
      key = λ i ge lt. same i (omega arith) lt ∙ s.key i ge lt;
    }

-- ---- where a chain is cut

-- the first of a chain
pub first_is : (x : Index) (b n : ℕ) (ps : List ℕ) → IsChain x b n ps → n ≡ first_of ps
first_is x b n [] is = is
first_is x b n (p ∷ ps) is = is.0

pub chain_rest : (x : Index) (b at : ℕ) (pre : List ℕ) (p : ℕ) (post : List ℕ) → IsChain x b at (pre ++ p ∷ post) → IsChain x b (next_at x.unit p) post
chain_rest x b at [] p post (is, some, sound, rest) = rest
chain_rest x b at (r ∷ pre) p post (is, some, sound, rest) = chain_rest x b (next_at x.unit r) pre p post rest

-- ---- the chains after a cut

module _ (x y z : Index) (buckets : y.buckets ≡ x.buckets) (zb : z.buckets ≡ y.buckets) (zu : z.used ≡ y.used) (kept later : ℕ → Bool)
    (hx : HasChains x (places_of x)) (has : HasChains y (λ b. filter kept (places_of x b)))
    (sy : (q : ℕ) → Contains (all_places x) q → Stays x.unit y.unit q) (sz : (q : ℕ) → Contains (all_places x) q → Stays x.unit z.unit q)
    (b : ℕ) (below : b < y.buckets) (pre : List ℕ) (p : ℕ) (post : List ℕ) (is : filter kept (places_of x b) ≡ pre ++ p ∷ post)
    (here : (is_link z (z.head b) ≡ true) × IsChain z b (z.head b) (pre ++ post))
    (heads : (c : ℕ) → c < y.buckets → (c ≡ b → ⊥) → z.head c ≡ y.head c)
    (nexts : (c q : ℕ) → c < y.buckets → (c ≡ b → ⊥) → Contains (filter kept (places_of x c)) q → next_at z.unit q ≡ next_at y.unit q)
    (both : (q : ℕ) → later q ≡ (kept q && is_other p q)) where
  abbrev ks : ℕ → List ℕ
  ks c = filter kept (places_of x c)

  in_x : (t : ℕ → Bool) (c q : ℕ) → c < y.buckets → Contains (filter t (places_of x c)) q → Contains (all_places x) q
  in_x t c q lt m = all_in x (places_of x) hx q c (subst (λ (n : ℕ). c < n) buckets lt) ((filter_in t (places_of x c) q m).0)

  others : (c q : ℕ) → c < y.buckets → (c ≡ b → ⊥) → Contains (ks c) q → SameBut y z q × (next_at z.unit q ≡ next_at y.unit q)
  others c q lt other m = let i = in_x kept c q lt m in (between x y z q (but x y q (sy q i)) (but x z q (sz q i)), nexts c q lt other m)

  pub has_cut : HasChains z (λ c. filter later (places_of x c))
  has_cut c lt =
      let h = has_with y z zb zu ks has b below (pre ++ post) here heads others c lt in (
        h.0,
        subst (IsChain z c (z.head c)) (kept_less y ks has b below pre p post is (places_of x) kept later (λ d in'. refl) both c
            (subst (λ (n : ℕ). c < n) zb lt)) h.1,
      )

  less : (f : ℕ → ℕ) → sum_by f (all_places y) ≡ sum_by f (all_places z) + f p
  less f = sum_less y z zb zu ks has b below (pre ++ post) here heads others f (f p) (ap (sum_by f) is ∙ sum_without f pre p post)

  all_z : (q : ℕ) → Contains (all_places z) q → Contains (all_places x) q
  all_z q m = let i = in_all z (λ c. filter later (places_of x c)) has_cut q m in in_x later i.0 q (subst (λ (n : ℕ). i.0 < n) zb i.1) i.2

  pub whole_cut : (n m count live : ℕ) → IsWhole n m x → IsWhole count live y → IsWhole (count - 1) (live - units_at x.unit p) z × (1 ≤ count)
  whole_cut n m count live wx wy =
      let units : (q : ℕ) → Contains (all_places z) q → units_at z.unit q ≡ units_at x.unit q = λ q c. (but x z q (sz q (all_z q c))).units in
      let ys : sum_by (units_at y.unit) (all_places y) ≡ sum_by (units_at x.unit) (all_places y) =
      sum_each (units_at y.unit) (units_at x.unit) (all_places y) (λ q c. let i = in_all y ks has q c in (but x y q (sy q (in_x kept i.0 q i.1 i.2))).units) in
      let zs : sum_by (units_at z.unit) (all_places z) ≡ sum_by (units_at x.unit) (all_places z) = sum_each (units_at z.unit) (units_at x.unit)
      (all_places z) units in
      let one : sum_by (λ (q : ℕ). 1) (all_places y) ≡ sum_by (λ (q : ℕ). 1) (all_places z) + 1 = less (λ (q : ℕ). 1) in
      let whole : IsWhole (count - 1) (live - units_at x.unit p) z = record {
        chains = chains_ok z (λ c. filter later (places_of x c)) has_cut;
        apart = λ a c ca cc' lt. omega (arith, units a ca, wx.apart a c (all_z a ca) (all_z c cc') lt);
        records = omega (arith, length_sum (all_places z), length_sum (all_places y), wy.records, one);
        live = omega (arith, zs, ys, wy.live, less (units_at x.unit));
      } in
      (whole, omega (arith, length_sum (all_places y), wy.records, one))

-- the rows of chains that keep some places
pub rows_kept : (x y : Index) (kept : ℕ → Bool) → y.buckets ≡ x.buckets → HasChains x (places_of x) → HasChains y (λ b. filter kept (places_of x b))
    → ((q : ℕ) → Contains (all_places x) q → Stays x.unit y.unit q) → (r : Row)
    → times r (rows_of y) ≡ times r (kept_of x kept)
rows_kept x y kept buckets hx has stays r =
    let ks : ℕ → List ℕ = λ b. filter kept (places_of x b) in
    times_rows y r
    ∙ ap (sum_by (tally y.unit r)) (all_are y ks has ∙ ap (λ (n : ℕ). flat_map ks (range_with_len 0 n)) buckets)
    ∙ sum_flat (tally y.unit r) ks 0 x.buckets
    ∙ sum_same (λ b. sum_by (tally y.unit r) (ks b)) (λ b. times r (map (row_at x.unit) (ks b))) 0 x.buckets (λ b ge lt.
    sum_each (tally y.unit r) (tally x.unit r) (ks b) (λ q m.
    let i = all_in x (places_of x) hx q b (omega arith) ((filter_in kept (places_of x b) q m).0) in
    ap (λ (s : Row). cond (same_rows r s) 1 0) ((but x y q (stays q i)).row)) ∙ sym (times_map x.unit r (ks b)))
    ∙ sym (times_flat r (λ (b : ℕ). map (row_at x.unit) (ks b)) 0 x.buckets)
