-- A chain as a relation: its places, each naming the next.
use Rattle.std.proofs.Common.{◌≡◌, ℕ, zero, suc, ◌+◌, ◌/◌, ◌<◌, ◌≤◌, List, [], ◌∷◌, true, eqb, ltb, leb, Ok, Err, sym, ap, ◌∙◌, arith, subst, inl, inr}
use Rattle.rpm_hindex.proofs.Vocabulary.{behind_place, chain, Contains, first_record, follow, Index, is_link, is_sound, next_at}
use Rattle.std.proofs.lemmas.Bool.{cases_Bool, and_parts, eqb-true, ltb-true, leb-true, or_cases, cases_eq, and_from, or_right, lt-ltb, le-leb}
use Rattle.rpm_hindex.proofs.Chains.{sound_parts, follow_step, follow_is_ok, fuel, chain_from, chain_bad}

pub within : (x : Index) (at : ℕ) → is_link x at ≡ true → 0 < at → at < x.used
within x at link some = elim (or_cases (eqb at 0) _ link) [
  | inl zeros ↦ absurd (omega (arith, eqb-true at 0 zeros))
  | inr named ↦ ltb-true at x.used (and_parts (leb (first_record x.buckets) at) (ltb at x.used) named).1
]

pub behind_front : (x : Index) (at : ℕ) → is_link x at ≡ true → 0 < at → first_record x.buckets ≤ at
behind_front x at link some = elim (or_cases (eqb at 0) _ link) [
  | inl zeros ↦ absurd (omega (arith, eqb-true at 0 zeros))
  | inr named ↦ leb-true (first_record x.buckets) at (and_parts (leb (first_record x.buckets) at) (ltb at x.used) named).0
]

pub link_at : (x : Index) (at : ℕ) → first_record x.buckets ≤ at → at < x.used → is_link x at ≡ true
link_at x at from to = or_right (eqb at 0) _ (and_from (leb (first_record x.buckets) at) (ltb at x.used) (le-leb _ _ from) (lt-ltb _ _ to))

module _ (x : Index) (b : ℕ) where
  abbrev pub IsChain : ℕ → List ℕ → Type 0
  IsChain at [] = at ≡ 0
  IsChain at (p ∷ ps) = (at ≡ p) × (0 < p) × (is_sound x b p ≡ true) × IsChain (next_at x.unit p) ps

  pub chain_of_follow : (n at : ℕ) (ps : List ℕ) → at ≤ n → follow x b n at ≡ Ok ps → IsChain at ps
  chain_of_follow zero at [] le e = omega arith
  chain_of_follow zero at (p ∷ ps) le e = absurd (let wrong : ⊥ = cc in wrong)
  chain_of_follow (suc n) at [] le e = elim (cases_eq at 0) [
    | inl zeros ↦ zeros
    | inr some ↦
        let f = follow_is_ok x b (suc n) at [] (omega (arith, some)) le e in
        absurd (let wrong : ⊥ = (let q : [] ≡ at ∷ f.0 = f.2 in cc) in wrong)
  ]
  chain_of_follow (suc n) at (p ∷ ps) le e = elim (cases_eq at 0) [
    | inl zeros ↦
        let wrong : Ok [] ≡ Ok (p ∷ ps) = sym (ap (follow x b (suc n)) zeros) ∙ e in
        absurd (let no' : ⊥ = cc in no')
    | inr some ↦
        let f = follow_is_ok x b (suc n) at (p ∷ ps) (omega (arith, some)) le e in
        let same : p ∷ ps ≡ at ∷ f.0 = f.2 in
        let head : p ≡ at = cc in
        let tail : ps ≡ f.0 = cc in
        let s = sound_parts x b at f.1 in
        let next = fuel x b n (next_at x.unit at) (next_at x.unit at) (omega (arith, s.falls)) (omega arith) ∙ f.3 ∙ ap Ok (sym tail) in
        let rest = chain_of_follow n (next_at x.unit at) ps (omega (arith, s.falls)) next in
        (sym head, omega (arith, some), ap (is_sound x b) head ∙ f.1, subst (λ (k : ℕ). IsChain (next_at x.unit k) ps) (sym head) rest)
  ]

  pub follow_of_chain : (at : ℕ) (ps : List ℕ) → IsChain at ps → follow x b at at ≡ Ok ps
  follow_of_chain at [] zeros = ap (λ (k : ℕ). follow x b k k) zeros
  follow_of_chain at (p ∷ ps) (is, some, sound, rest) =
      ap (λ (k : ℕ). follow x b k k) is
      ∙ follow_step x b p p some (omega arith) sound
      ∙ ap (behind_place p) (follow_of_chain (next_at x.unit p) ps rest)

  pub chain_ok : (ps : List ℕ) → chain x b ≡ Ok ps → (is_link x (x.head b) ≡ true) × IsChain (x.head b) ps
  chain_ok ps e = elim (cases_Bool (is_link x (x.head b))) [
    | inl link ↦ (link, chain_of_follow (x.head b) (x.head b) ps (omega arith) (sym (chain_from x b link) ∙ e))
    | inr bad ↦
        let wrong : Err (2 + b / 4) ≡ Ok ps = sym (chain_bad x b bad) ∙ e in
        absurd (let no' : ⊥ = cc in no')
  ]

  pub ok_chain : (ps : List ℕ) → is_link x (x.head b) ≡ true → IsChain (x.head b) ps → chain x b ≡ Ok ps
  ok_chain ps link is = chain_from x b link ∙ follow_of_chain (x.head b) ps is

  -- each place of a chain is that of a sound record
  pub sound_in : (at : ℕ) (ps : List ℕ) → IsChain at ps → (p : ℕ) → Contains ps p → (0 < p) × (is_sound x b p ≡ true)
  sound_in at [] is p (k, lt, e) = absurd (omega arith)
  sound_in at (q ∷ ps) (is, some, sound, rest) p (zero, lt, e) = (omega (arith, some, e), ap (is_sound x b) (sym e) ∙ sound)
  sound_in at (q ∷ ps) (is, some, sound, rest) p (suc k, lt, e) = sound_in (next_at x.unit q) ps rest p (k, omega arith, e)
