-- A record less.
use Rattle.std.proofs.Common.{◌≡◌, ℕ, zero, suc, ◌+◌, ◌<◌, ◌≤◌, List, [], ◌∷◌, ◌++◌, true, cond, eqb, refl, sym, ap, ◌∙◌, arith, subst, inl, inr}
use Rattle.rpm_hindex.proofs.Vocabulary.{all_places, bucket_of, Contains, flat_map, Index, is_link, is_sound, next_at, range_with_len, Row, row_at, sum_by}
use Rattle.rpm_hindex.proofs.Vocabulary.{units_at}
use Rattle.std.proofs.lemmas.List.Sums.{sum_by-cons, sum_by-append}
use Rattle.std.proofs.lemmas.List.Elements.{Contains-append_right}
use Rattle.std.proofs.lemmas.Bool.{cases_eq, cond-true, cond-false, eq-eqb, ne_eqb}
use Rattle.rpm_hindex.proofs.Chains.{Sound, sound_parts}
use Rattle.rpm_hindex.proofs.FollowedLinks.{IsChain}
use Rattle.rpm_hindex.proofs.Wholes.{HasChains, all_are}
use Rattle.rpm_hindex.proofs.Extends.{sound_whole}
use Rattle.rpm_hindex.proofs.Tallies.{sum_flat, sum_at}

-- a record that is read the same, its next aside
pub record SameBut (x y : Index) (q : ℕ) : Type 0 where
  pub units : units_at y.unit q ≡ units_at x.unit q
  pub row : row_at y.unit q ≡ row_at x.unit q

-- later places of a chain are lower
pub chain_falls : (x : Index) (b at : ℕ) (ps : List ℕ) → IsChain x b at ps → (r : ℕ) → Contains ps r → r ≤ at
chain_falls x b at [] is r (k, lt, e) = absurd (omega arith)
chain_falls x b at (p ∷ ps) (is, some, sound, rest) r (zero, lt, e) = omega (arith, is, e)
chain_falls x b at (p ∷ ps) (is, some, sound, rest) r (suc k, lt, e) =
    let later = chain_falls x b (next_at x.unit p) ps rest r (k, omega arith, e) in
    omega (arith, is, (sound_parts x b p sound).falls, later)

module _ (x y : Index) (buckets : y.buckets ≡ x.buckets) (used : y.used ≡ x.used) where
  pub links_same : (at : ℕ) → is_link y at ≡ is_link x at
  links_same at =
      ap (λ (n : ℕ). is_link (record { buckets = n; used = y.used; head = x.head; unit = x.unit }) at) buckets
      ∙ ap (λ (n : ℕ). is_link (record { buckets = x.buckets; used = n; head = x.head; unit = x.unit }) at) used

  sound_but : (b q n : ℕ) → SameBut x y q → Sound x b q → next_at y.unit q ≡ n → is_link x n ≡ true → n < q → is_sound y b q ≡ true
  sound_but b q n same s next link below = sound_whole y b q (record {
    link = ap (is_link y) next ∙ links_same n ∙ link;
    falls = omega (arith, next, below);
    ends = omega (arith, same.units, s.ends, used);
    bucket = ap (λ (r : Row). bucket_of y.buckets r) same.row ∙ ap (λ (m : ℕ). bucket_of m (row_at x.unit q)) buckets ∙ s.bucket;
  })

  -- a chain whose records stay
  pub chain_keeps : (b at : ℕ) (ps : List ℕ) → IsChain x b at ps → ((q : ℕ) → Contains ps q → SameBut x y q × (next_at y.unit q ≡ next_at x.unit q))
      → IsChain y b at ps
  chain_keeps b at [] is same = is
  chain_keeps b at (p ∷ ps) (is, some, sound, rest) same =
      let here = same p (0, omega arith, refl) in
      let s = sound_parts x b p sound in (
        is,
        some,
        sound_but b p (next_at x.unit p) here.0 s here.1 s.link s.falls,
        subst (λ (n : ℕ). IsChain y b n ps) (sym here.1) (chain_keeps b (next_at x.unit p) ps rest (λ q (k, lt, e). same q (suc k, omega arith, e))),
      )

  -- a chain that loses the record after the last of these
  pub chain_cuts : (b at : ℕ) (pre : List ℕ) (q p : ℕ) (post : List ℕ) → IsChain x b at (pre ++ q ∷ p ∷ post)
      → ((r : ℕ) → Contains (pre ++ q ∷ p ∷ post) r → SameBut x y r) → ((r : ℕ) → (r ≡ q → ⊥) → Contains (pre ++ q ∷ p ∷ post) r → next_at y.unit r
      ≡ next_at x.unit r) → next_at y.unit q ≡ next_at x.unit p → IsChain y b at (pre ++ q ∷ post)
  chain_cuts b at [] q p post (is, some, sound, (next_is, psome, psound, rest)) same next cut =
      let s = sound_parts x b q sound in
      let t = sound_parts x b p psound in
      let lower : next_at x.unit p < q = omega (arith, t.falls, s.falls, next_is) in
      let kept = chain_keeps b (next_at x.unit p) post rest (λ r (k, lt, e).
      let c : Contains (q ∷ p ∷ post) r = (suc (suc k), omega arith, e) in
      let below = chain_falls x b (next_at x.unit p) post rest r (k, lt, e) in
      (same r c, next r (λ f. absurd (omega arith)) c)) in
      (is, some, sound_but b q (next_at x.unit p) (same q (0, omega arith, refl)) s cut t.link lower, subst (λ (n : ℕ). IsChain y b n post) (sym cut) kept)
  chain_cuts b at (r ∷ pre) q p post (is, some, sound, rest) same next cut =
      let s = sound_parts x b r sound in
      let in' : Contains (r ∷ (pre ++ q ∷ p ∷ post)) r = (0, omega arith, refl) in
      let later = chain_falls x b (next_at x.unit r) (pre ++ q ∷ p ∷ post) rest q (Contains-append_right pre (q ∷ p ∷ post) q (0, omega arith, refl)) in
      let stays = next r (λ e. absurd (omega (arith, later, s.falls, e))) in' in (
        is,
        some,
        sound_but b r (next_at x.unit r) (same r in') s stays s.link s.falls,
        subst (λ (n : ℕ). IsChain y b n (pre ++ q ∷ post)) (sym stays)
            (chain_cuts b (next_at x.unit r) pre q p post rest (λ t (k, lt, e). same t (suc k, omega arith, e))
            (λ t other (k, lt, e). next t other (suc k, omega arith, e)) cut),
      )

  -- or the first
  pub chain_starts : (b at p : ℕ) (post : List ℕ) → IsChain x b at (p ∷ post) → ((r : ℕ) → Contains post r → SameBut x y r
      × (next_at y.unit r ≡ next_at x.unit r)) → IsChain y b (next_at x.unit p) post
  chain_starts b at p post (is, some, sound, rest) same = chain_keeps b (next_at x.unit p) post rest same

-- the places with another chain for one bucket
abbrev pub with_chain : (ℕ → List ℕ) → ℕ → List ℕ → ℕ → List ℕ
with_chain ks b new c = cond (eqb c b) new (ks c)

module _ (x y : Index) (buckets : y.buckets ≡ x.buckets) (used : y.used ≡ x.used) (ks : ℕ → List ℕ) (has : HasChains x ks) (b : ℕ)
    (below : b < x.buckets) (new : List ℕ)
    (here : (is_link y (y.head b) ≡ true) × IsChain y b (y.head b) new)
    (heads : (c : ℕ) → c < x.buckets → (c ≡ b → ⊥) → y.head c ≡ x.head c)
    (others : (c q : ℕ) → c < x.buckets → (c ≡ b → ⊥) → Contains (ks c) q → SameBut x y q × (next_at y.unit q ≡ next_at x.unit q)) where
  with_here : with_chain ks b new b ≡ new
  with_here = cond-true (eqb b b) new (ks b) (eq-eqb b b refl)

  with_other : (c : ℕ) → (c ≡ b → ⊥) → with_chain ks b new c ≡ ks c
  with_other c other = cond-false (eqb c b) new (ks c) (ne_eqb c b other)

  pub has_with : HasChains y (with_chain ks b new)
  has_with c lt = elim (cases_eq c b) [
    | inl is ↦
        let h : (is_link y (y.head c) ≡ true) × IsChain y c (y.head c) new = subst (λ (k : ℕ). (is_link y (y.head k) ≡ true) × IsChain y k (y.head k)
        new) (sym is) here in
        (h.0, subst (IsChain y c (y.head c)) (sym (ap (with_chain ks b new) is ∙ with_here)) h.1)
    | inr other ↦
        let inside : c < x.buckets = subst (λ (n : ℕ). c < n) buckets lt in
        let h = has c inside in
        let head = heads c inside other in
        let chain = chain_keeps x y buckets used c (x.head c) (ks c) h.1 (λ q m. others c q inside other m) in (
          ap (is_link y) head ∙ links_same x y buckets used (x.head c) ∙ h.0,
          subst (λ (n : ℕ). IsChain y c n (with_chain ks b new c)) (sym head) (subst (IsChain y c (x.head c)) (sym (with_other c other)) chain),
        )
  ]

  -- a sum over all records falls by that of the one that is gone
  pub sum_less : (f : ℕ → ℕ) (v : ℕ) → sum_by f (ks b) ≡ sum_by f new + v → sum_by f (all_places x) ≡ sum_by f (all_places y) + v
  sum_less f v is =
      ap (sum_by f) (all_are x ks has)
      ∙ sum_flat f ks 0 x.buckets
      ∙ sum_at (λ c. sum_by f (ks c)) (λ c. sum_by f (with_chain ks b new c)) b v 0 x.buckets (omega arith) (omega arith)
      (is ∙ ap (λ (ps : List ℕ). sum_by f ps + v) (sym with_here))
      (λ c ge lt other. ap (sum_by f) (sym (with_other c other)))
      ∙ ap (λ (n : ℕ). n + v) (sym (sum_flat f (with_chain ks b new) 0 x.buckets)
      ∙ sym (ap (sum_by f) (all_are y (with_chain ks b new) has_with ∙ ap (λ (n : ℕ). flat_map (with_chain ks b new) (range_with_len 0 n)) buckets)))

pub sum_without : (f : ℕ → ℕ) (pre : List ℕ) (p : ℕ) (post : List ℕ) → sum_by f (pre ++ p ∷ post) ≡ sum_by f (pre ++ post) + f p
sum_without f pre p post = omega (arith, sum_by-append f pre (p ∷ post), sum_by-append f pre post, sum_by-cons f p post)
