-- The chains of all buckets.
use Rattle.std.proofs.Common.{◌≡◌, ℕ, zero, suc, ◌+◌, ◌<◌, ◌≤◌, List, ◌++◌, true, Result, Ok, Err, refl, sym, ap, ◌∙◌, arith, subst, inl, inr}
use Rattle.std.specs.Prelude.{IsOk}
use Rattle.rpm_hindex.proofs.Vocabulary.{all_places, chain, Contains, flat_map, Index, is_link, is_sound, places_in, places_of, range_with_len}
use Rattle.std.proofs.lemmas.List.Elements.{Contains-append_left, Contains-append_right, Contains-append_cases}
use Rattle.std.proofs.lemmas.Bool.{cases_eq, false≢true}
use Rattle.rpm_hindex.proofs.FollowedLinks.{IsChain, chain_ok, ok_chain, sound_in}

-- the chain of each bucket has these places
abbrev pub HasChains : Index → (ℕ → List ℕ) → Type 0
HasChains x ps = (b : ℕ) → b < x.buckets → (is_link x (x.head b) ≡ true) × IsChain x b (x.head b) (ps b)

pub ok_places : (said : Result (List ℕ) ℕ) → IsOk said → said ≡ Ok (places_in said)
ok_places (Ok places) ok = refl
ok_places (Err unit) ok = absurd (false≢true ok)

pub has_chains : (x : Index) → ((b : ℕ) → b < x.buckets → IsOk (chain x b)) → HasChains x (places_of x)
unfolding places_of
has_chains x ok b below = chain_ok x b (places_in (chain x b)) (ok_places (chain x b) (ok b below))

pub chains_are : (x : Index) (ps : ℕ → List ℕ) → HasChains x ps → (b : ℕ) → b < x.buckets → chain x b ≡ Ok (ps b)
chains_are x ps has b below = let h = has b below in ok_chain x b (ps b) h.0 h.1

pub places_are : (x : Index) (ps : ℕ → List ℕ) → HasChains x ps → (b : ℕ) → b < x.buckets → places_of x b ≡ ps b
unfolding places_of
places_are x ps has b below = ap places_in (chains_are x ps has b below)

pub chains_ok : (x : Index) (ps : ℕ → List ℕ) → HasChains x ps → (b : ℕ) → b < x.buckets → IsOk (chain x b)
chains_ok x ps has b below = subst IsOk (sym (chains_are x ps has b below)) refl

pub flat_same : (f g : ℕ → List ℕ) (a n : ℕ) → ((b : ℕ) → a ≤ b → b < a + n → f b ≡ g b) → flat_map f (range_with_len a n) ≡ flat_map g (range_with_len a n)
flat_same f g a zero same = refl
flat_same f g a (suc n) same =
    ap (λ (ps : List ℕ). ps ++ flat_map f (range_with_len (a + 1) n)) (same a (omega arith) (omega arith))
    ∙ ap (λ (ps : List ℕ). g a ++ ps) (flat_same f g (a + 1) n (λ b ge lt. same b (omega arith) (omega arith)))

pub all_are : (x : Index) (ps : ℕ → List ℕ) → HasChains x ps → all_places x ≡ flat_map ps (range_with_len 0 x.buckets)
unfolding all_places
all_are x ps has = flat_same (places_of x) ps 0 x.buckets (λ b ge lt. places_are x ps has b (omega arith))

pub in_flat : (g : ℕ → List ℕ) (a n p : ℕ) → Contains (flat_map g (range_with_len a n)) p → (b : ℕ) × (a ≤ b) × (b < a + n) × Contains (g b) p
in_flat g a zero p (k, lt, e) = absurd (omega arith)
in_flat g a (suc n) p c = elim (Contains-append_cases (g a) (flat_map g (range_with_len (a + 1) n)) p c) [
  | inl here ↦ (a, omega arith, omega arith, here)
  | inr later ↦ let r = in_flat g (a + 1) n p later in (r.0, omega (arith, r.1), omega (arith, r.2), r.3)
]

pub flat_in : (g : ℕ → List ℕ) (a n p b : ℕ) → a ≤ b → b < a + n → Contains (g b) p → Contains (flat_map g (range_with_len a n)) p
flat_in g a zero p b ge lt c = absurd (omega arith)
flat_in g a (suc n) p b ge lt c = elim (cases_eq a b) [
  | inl same ↦ Contains-append_left (g a) (flat_map g (range_with_len (a + 1) n)) p (subst (λ (k : ℕ). Contains (g k) p) (sym same) c)
  | inr other ↦ Contains-append_right (g a) (flat_map g (range_with_len (a + 1) n)) p (flat_in g (a + 1) n p b (omega (arith, other)) (omega arith) c)
]

-- a place of any chain is that of a record of that bucket
pub sound_of : (x : Index) (ps : ℕ → List ℕ) → HasChains x ps → (b p : ℕ) → b < x.buckets → Contains (ps b) p → (0 < p) × (is_sound x b p ≡ true)
sound_of x ps has b p below c = sound_in x b (x.head b) (ps b) ((has b below).1) p c

-- and of all
pub in_all : (x : Index) (ps : ℕ → List ℕ) → HasChains x ps → (p : ℕ) → Contains (all_places x) p → (b : ℕ) × (b < x.buckets) × Contains (ps b) p
in_all x ps has p c =
    let r = in_flat ps 0 x.buckets p (subst (λ (qs : List ℕ). Contains qs p) (all_are x ps has) c) in
    (r.0, omega (arith, r.2), r.3)

pub all_in : (x : Index) (ps : ℕ → List ℕ) → HasChains x ps → (p b : ℕ) → b < x.buckets → Contains (ps b) p → Contains (all_places x) p
all_in x ps has p b below c = subst (λ (qs : List ℕ). Contains qs p) (sym (all_are x ps has)) (flat_in ps 0 x.buckets p b (omega arith) (omega arith) c)
