-- The places that are not dropped.
use Rattle.std.proofs.Common.{◌≡◌, ℕ, zero, suc, ◌<◌, List, [], ◌∷◌, ◌++◌, Bool, true, false, cond, eqb, not, ◌&&◌, refl, sym, ap, ◌∙◌, arith, subst, inl, inr}
use Rattle.rpm_hindex.proofs.Vocabulary.{bucket_of, Contains, filter, Index, next_at, row_at}
use Rattle.std.proofs.lemmas.List.Elements.{Contains-append_right}
use Rattle.std.proofs.lemmas.Bool.{cases_eq, cases_Bool, eq-eqb, ne_eqb, cond-true, cond-false}
use Rattle.rpm_hindex.proofs.Chains.{sound_parts}
use Rattle.rpm_hindex.proofs.FollowedLinks.{IsChain, sound_in}
use Rattle.rpm_hindex.proofs.Wholes.{HasChains, sound_of}
use Rattle.rpm_hindex.proofs.Drops.{chain_falls, with_chain}

abbrev pub is_other : ℕ → ℕ → Bool
is_other p q = not (eqb q p)

-- a list that hasn't p stays
filter_none : (p : ℕ) (qs : List ℕ) → ((q : ℕ) → Contains qs q → q ≡ p → ⊥) → filter (is_other p) qs ≡ qs
filter_none p [] none = refl
filter_none p (q ∷ qs) none =
    let yes' : is_other p q ≡ true = ap not (ne_eqb q p (none q (0, omega arith, refl))) in
    cond-true (is_other p q) (q ∷ filter (is_other p) qs) (filter (is_other p) qs) yes'
    ∙ ap (λ (rs : List ℕ). q ∷ rs) (filter_none p qs (λ r (k, lt, e). none r (suc k, omega arith, e)))

filter_one : (p : ℕ) (pre post : List ℕ) → ((q : ℕ) → Contains pre q → q ≡ p → ⊥) → ((q : ℕ) → Contains post q → q ≡ p → ⊥) → filter (is_other p)
    (pre ++ p ∷ post) ≡ pre ++ post
filter_one p [] post before behind =
    let gone : is_other p p ≡ false = ap not (eq-eqb p p refl) in
    cond-false (is_other p p) (p ∷ filter (is_other p) post) (filter (is_other p) post) gone ∙ filter_none p post behind
filter_one p (q ∷ pre) post before behind =
    let stays : is_other p q ≡ true = ap not (ne_eqb q p (before q (0, omega arith, refl))) in
    cond-true (is_other p q) (q ∷ filter (is_other p) (pre ++ p ∷ post)) (filter (is_other p) (pre ++ p ∷ post)) stays
    ∙ ap (λ (rs : List ℕ). q ∷ rs) (filter_one p pre post (λ r (k, lt, e). before r (suc k, omega arith, e)) behind)

-- keeping by a test that passes all but p more
filter_twice : (p : ℕ) (kept later : ℕ → Bool) → ((q : ℕ) → later q ≡ (kept q && is_other p q)) → (qs : List ℕ) → filter later qs
    ≡ filter (is_other p) (filter kept qs)
filter_twice p kept later both [] = refl
filter_twice p kept later both (q ∷ qs) = elim (cases_Bool (kept q)) [
  | inl stays ↦
      let is : later q ≡ is_other p q = both q ∙ ap (λ (t : Bool). t && is_other p q) stays in
      let first : filter kept (q ∷ qs) ≡ q ∷ filter kept qs = cond-true (kept q) (q ∷ filter kept qs) (filter kept qs) stays in
      ap (λ (t : Bool). cond t (q ∷ filter later qs) (filter later qs)) is
      ∙ ap (λ (rs : List ℕ). cond (is_other p q) (q ∷ rs) rs) (filter_twice p kept later both qs)
      ∙ ap (filter (is_other p)) (sym first)
  | inr gone ↦
      let is : later q ≡ false = both q ∙ ap (λ (t : Bool). t && is_other p q) gone in
      let first : filter kept (q ∷ qs) ≡ filter kept qs = cond-false (kept q) (q ∷ filter kept qs) (filter kept qs) gone in
      cond-false (later q) (q ∷ filter later qs) (filter later qs) is
      ∙ filter_twice p kept later both qs
      ∙ ap (filter (is_other p)) (sym first)
]

-- a place stands once in its chain
before_it : (x : Index) (b at : ℕ) (pre : List ℕ) (p : ℕ) (post : List ℕ) → IsChain x b at (pre ++ p ∷ post) → (q : ℕ) → Contains pre q → q ≡ p → ⊥
before_it x b at [] p post is q (k, lt, e) same = absurd (omega arith)
before_it x b at (r ∷ pre) p post (is, some, sound, rest) q (zero, lt, e) same =
    let later = chain_falls x b (next_at x.unit r) (pre ++ p ∷ post) rest p (Contains-append_right pre (p ∷ post) p (0, omega arith, refl)) in
    absurd (omega (arith, later, (sound_parts x b r sound).falls, e, same))
before_it x b at (r ∷ pre) p post (is, some, sound, rest) q (suc k, lt, e) same = before_it x b (next_at x.unit r) pre p post rest q (k, omega arith, e) same

behind_it : (x : Index) (b at : ℕ) (pre : List ℕ) (p : ℕ) (post : List ℕ) → IsChain x b at (pre ++ p ∷ post) → (q : ℕ) → Contains post q → q ≡ p → ⊥
behind_it x b at [] p post (is, some, sound, rest) q c same =
    let later = chain_falls x b (next_at x.unit p) post rest q c in
    absurd (omega (arith, later, (sound_parts x b p sound).falls, same))
behind_it x b at (r ∷ pre) p post (is, some, sound, rest) q c same = behind_it x b (next_at x.unit r) pre p post rest q c same

module _ (x : Index) (ks : ℕ → List ℕ) (has : HasChains x ks) (b : ℕ) (below : b < x.buckets) (pre : List ℕ) (p : ℕ) (post : List ℕ)
    (is : ks b ≡ pre ++ p ∷ post) where
  chain_is : IsChain x b (x.head b) (pre ++ p ∷ post)
  chain_is = subst (IsChain x b (x.head b)) is (has b below).1

  -- p is in no other chain
  elsewhere : (c : ℕ) → c < x.buckets → (c ≡ b → ⊥) → (q : ℕ) → Contains (ks c) q → q ≡ p → ⊥
  elsewhere c lt other q m same =
      let s = sound_parts x c q ((sound_of x ks has c q lt m).1) in
      let t = sound_parts x b p ((sound_in x b (x.head b) (pre ++ p ∷ post) chain_is p (Contains-append_right pre (p ∷ post) p (0, omega arith, refl))).1) in
      other (sym s.bucket ∙ ap (λ (k : ℕ). bucket_of x.buckets (row_at x.unit k)) same ∙ t.bucket)

  -- dropping p in the chains that keep what a test passes
  pub kept_less : (ps : ℕ → List ℕ) (kept later : ℕ → Bool) → ((c : ℕ) → c < x.buckets → ks c ≡ filter kept (ps c))
      → ((q : ℕ) → later q ≡ (kept q && is_other p q))
      → (c : ℕ) → c < x.buckets → with_chain ks b (pre ++ post) c ≡ filter later (ps c)
  kept_less ps kept later are both c lt = elim (cases_eq c b) [
    | inl here ↦
        cond-true (eqb c b) (pre ++ post) (ks c) (eq-eqb c b here)
        ∙ sym (filter_one p pre post (before_it x b (x.head b) pre p post chain_is) (behind_it x b (x.head b) pre p post chain_is))
        ∙ ap (filter (is_other p)) (sym (ap ks here ∙ is))
        ∙ ap (filter (is_other p)) (are c lt)
        ∙ sym (filter_twice p kept later both (ps c))
    | inr other ↦
        cond-false (eqb c b) (pre ++ post) (ks c) (ne_eqb c b other)
        ∙ sym (filter_none p (ks c) (elsewhere c lt other))
        ∙ ap (filter (is_other p)) (are c lt)
        ∙ sym (filter_twice p kept later both (ps c))
  ]
